use Rattle.std.proofs.Common.{All, get_or, length, subst, sym}
use Rattle.stark_support.specs.Periodic.{ColumnFits}
use Rattle.stark_quotient.proofs.PointSteps.{all_unmapped}
use Rattle.stark_quotient.proofs.quotient.fitting_columns.Goals as goal

pub invariant_of-result : goal.invariant_of-result
invariant_of-result g c = record {
  fit = λ k d below.
      let n = c.args.trace_len in
      let columns = c.periodic_columns.result.now in
      let fits = all_unmapped (λ column. column.items) (λ l. ColumnFits n (length l)) columns (subst (λ l. All (λ column. ColumnFits n (length column)) l) (sym c.periodic_columns.ensures) c.requires) in
      subst (λ m. ColumnFits n m) (sym ((get_or columns k d).ok.0)) (fits k d below);
}
