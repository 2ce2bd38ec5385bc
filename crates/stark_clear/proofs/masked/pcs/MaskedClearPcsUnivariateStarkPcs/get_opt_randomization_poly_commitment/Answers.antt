use Rattle.std.proofs.Common.{◌≡◌, ◌∙◌, ap, sym, subst, length, rules}
use Rattle.std.specs.List.{AllByRecursion}
use Rattle.stark_columns.specs.Columns.{columns_list}
use Rattle.stark_clear.proofs.MaskSteps.{lists_full, lists_length}
use Rattle.stark_clear.proofs.masked.pcs.MaskedClearPcsUnivariateStarkPcs.get_opt_randomization_poly_commitment.Goals as goal

pub returns-clause-stands : goal.returns-clause-stands
returns-clause-stands g c = (
  columns_list c.in_ok-columns.columns,
  (
    c.in_ok-made.ensures.commitment,
    c.in_ok-made.ensures.prover_data,
    (
      subst (λ n. AllByRecursion (λ column. length column ≡ n) (columns_list c.in_ok-columns.columns)) c.size.ensures
          (subst (AllByRecursion (λ column. length column ≡ c.size.result)) (sym c.in_ok-columns.ensures.lists) (lists_full g.F.Field.ring _ _ _ c.size.result)),
      tt,
    ),
  ),
  ap length c.in_ok-columns.ensures.lists ∙ lists_length g.F.Field.ring _ _ _ c.size.result ∙ c.DIMENSION.ensures,
)

pub returns-in_err-pass : goal.returns-in_err-pass
returns-in_err-pass c = search rules
