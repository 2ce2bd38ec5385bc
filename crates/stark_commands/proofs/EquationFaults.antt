-- An error that isn't want of memory says that the equation fails.
use Rattle.std.proofs.Common.{◌≡◌, ◌⊎◌, inl, inr, List, length}
use Rattle.stark_support.specs.Ring.{RingOps}
use Rattle.stark_support.specs.Selectors.{Subgroup}
use Rattle.stark_air.specs.Tree.{Constraint}
use Rattle.stark_transcript.specs.declared.error.VerificationError.{VerificationError}
use Rattle.stark_transcript.specs.declared.error.VerificationError.TheVariants.{OutOfMemory}
use Rattle.stark_protocol.specs.Equation.{ConstraintsFault, EquationHolds, OpenedRows, two_widths, unbalanced}

module _ {F E X : Type 0} (base : RingOps F) (ring : RingOps E) (embed : F → E) (subgroup : Subgroup E) (constraints : List (Constraint F)) (rows : OpenedRows F E) (zeta alpha quotient : E)
    (one_width : length rows.preprocessed_local ≡ length rows.preprocessed_next) where
  named : (error : VerificationError X) → ConstraintsFault base ring embed subgroup constraints rows zeta alpha quotient error → EquationHolds base ring embed subgroup constraints rows zeta alpha quotient → ⊥
  named error (two_widths differ) holds = differ one_width
  named error (unbalanced one fails) holds = fails holds

  pub equation_fails : (error : VerificationError X) → (error ≡ OutOfMemory → ⊥) → (error ≡ OutOfMemory) ⊎ ConstraintsFault base ring embed subgroup constraints rows zeta alpha quotient error
      → EquationHolds base ring embed subgroup constraints rows zeta alpha quotient → ⊥
  equation_fails error other (inl memory) holds = other memory
  equation_fails error other (inr fault) holds = named error fault holds
