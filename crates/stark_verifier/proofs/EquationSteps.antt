-- From what the verifier computes of the constraints to its verdict.
use Rattle.std.proofs.Common.{◌≡◌, ◌≢◌, ◌∙◌, ap, sym, List, length, None}
use Rattle.stark_support.specs.Ring.{RingOps}
use Rattle.stark_support.specs.Operations.{ring_operations}
use Rattle.stark_support.specs.Coset.{subgroup_vanishing}
use Rattle.stark_support.specs.Selectors.{Subgroup, first_row_selector, last_row_selector, transition_selector}
use Rattle.stark_air.specs.Tree.{Constraint}
use Rattle.stark_air.specs.Value.{constraint_values}
use Rattle.stark_air.specs.Rows.{environment_of}
use Rattle.stark_parts.specs.Folded.{folded}
use Rattle.stark_transcript.specs.declared.error.VerificationError.TheVariants.{OodEvaluationMismatch}
use Rattle.stark_protocol.specs.Equation.{OpenedRows, ConstraintsHold, ConstraintsFault, folded_constraints, unbalanced}

module _ {F E : Type 0} (base : RingOps F) (ring : RingOps E) (embed : F → E) (subgroup : Subgroup E) (constraints : List (Constraint F)) (rows : OpenedRows F E) (zeta alpha quotient : E)
    (first last transition sum vanishing : E)
    (first_is : first ≡ first_row_selector ring (λ c. c) subgroup zeta) (last_is : last ≡ last_row_selector ring (λ c. c) subgroup zeta) (transition_is : transition ≡ transition_selector ring (λ c. c) subgroup zeta)
    (sum_is : sum ≡ folded ring alpha (constraint_values (ring_operations ring embed)
    (environment_of (ring_operations ring embed) base.zero ring.zero rows.local rows.next rows.preprocessed_local rows.preprocessed_next rows.public_values rows.periodic first last transition) constraints))
    (vanishing_is : vanishing ≡ subgroup_vanishing ring subgroup.size zeta) where
  left_side : sum ≡ folded_constraints base ring embed subgroup constraints rows zeta alpha
  left_side =
      let at : E → E → E → E = λ f e t. folded ring alpha (constraint_values (ring_operations ring embed)
      (environment_of (ring_operations ring embed) base.zero ring.zero rows.local rows.next rows.preprocessed_local rows.preprocessed_next rows.public_values rows.periodic f e t) constraints) in
      sum_is ∙ ap (λ f. at f last transition) first_is ∙
      ap (λ e. at (first_row_selector ring (λ c. c) subgroup zeta) e transition) last_is ∙
      ap (λ t. at (first_row_selector ring (λ c. c) subgroup zeta) (last_row_selector ring (λ c. c) subgroup zeta) t) transition_is

  right_side : ring.mul vanishing quotient ≡ ring.mul (subgroup_vanishing ring subgroup.size zeta) quotient
  right_side = ap (λ v. ring.mul v quotient) vanishing_is

  module _ (one_width : length rows.preprocessed_local ≡ length rows.preprocessed_next) where
    pub constraints_hold : sum ≡ ring.mul vanishing quotient → ConstraintsHold base ring embed subgroup constraints rows zeta alpha quotient
    constraints_hold equal = record { one_width = one_width; balanced = sym left_side ∙ equal ∙ right_side }

    pub constraints_fail : {X : Type 0} → sum ≢ ring.mul vanishing quotient → ConstraintsFault base ring embed subgroup {X = X} constraints rows zeta alpha quotient (OodEvaluationMismatch None)
    constraints_fail differ = unbalanced one_width (λ balanced. differ (left_side ∙ balanced ∙ sym right_side))
