use Rattle.stark_clear.specs.ClearClaims.{HasValue}
use Rattle.stark_columns.specs.Columns.{column_list}
use Rattle.stark_support.proofs.Loops.{BothLeft}
use Rattle.stark_clear.proofs.clear.check.has_values.Given as goal

abbrev pub invariant-loop-i : goal.invariant-loop-i
invariant-loop-i g l = BothLeft column_list (λ v. v) (HasValue g.EF.Field.ring g.EF.ExtensionField.embed l.point) l.columns l.values l.i
