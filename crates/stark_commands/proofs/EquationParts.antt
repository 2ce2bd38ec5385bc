-- What an equation's verdict says of terms equal to those that were computed.
use Rattle.std.proofs.Common.{◌≡◌, List, subst}
use Rattle.stark_support.specs.Ring.{RingOps}
use Rattle.stark_support.specs.Selectors.{Subgroup}
use Rattle.stark_air.specs.Tree.{Constraint}
use Rattle.stark_protocol.specs.Equation.{OpenedRows}
use Rattle.stark_commands.specs.Point.{EquationVerdict}
use Rattle.stark_answers.specs.declared.verdict.Verdict.{Verdict}

module _ {F E : Type 0} (base : RingOps F) (ring : RingOps E) (embed : F → E) (subgroup : Subgroup E) (constraints : List (Constraint F))
    (rows : List E → OpenedRows F E) (zeta alpha : E) (verdict : Verdict) where
  -- The periodic row and the quotient are replaced by their equals.
  pub verdict_of_equals : (computed periodic : List E) (obtained quotient : E) → computed ≡ periodic → obtained ≡ quotient
      → EquationVerdict base ring embed subgroup constraints (rows computed) zeta alpha obtained verdict → EquationVerdict base ring embed subgroup constraints (rows periodic) zeta alpha quotient verdict
  verdict_of_equals computed periodic obtained quotient same_row same_quotient h =
      subst (λ q. EquationVerdict base ring embed subgroup constraints (rows periodic) zeta alpha q verdict) same_quotient
      (subst (λ p. EquationVerdict base ring embed subgroup constraints (rows p) zeta alpha obtained verdict) same_row h)
