-- The test of an AIR's constraints at the point out of the domain.
use Rattle.std.specs.Prelude.{◌≡◌, ◌≢◌, List, [], length, Option, None, Some}
use Rattle.stark_support.specs.Ring.{RingOps}
use Rattle.stark_support.specs.Operations.{ring_operations}
use Rattle.stark_support.specs.Coset.{subgroup_vanishing}
use Rattle.stark_support.specs.Selectors.{Subgroup, first_row_selector, last_row_selector, transition_selector}
use Rattle.stark_air.specs.Tree.{Constraint}
use Rattle.stark_air.specs.Value.{Environment, constraint_values}
use Rattle.stark_air.specs.Layout.{Layout}
use Rattle.stark_air.specs.Rows.{environment_of, layout_of}
use Rattle.stark_parts.specs.Folded.{folded}
use Rattle.stark_transcript.specs.declared.error.VerificationError.{VerificationError}
use Rattle.stark_transcript.specs.declared.error.VerificationError.TheVariants.{InvalidProofShape, OodEvaluationMismatch}
use Rattle.stark_transcript.specs.declared.error.InvalidProofShapeError.TheVariants.{PreprocessedTraceWidthMismatch}

-- What is opened of a trace at one point, with the periodic columns' values there and the public values.
pub record OpenedRows (F : Type 0) (E : Type 0) : Type 0 where
  pub local : List E
  pub next : List E
  pub preprocessed_local : List E
  pub preprocessed_next : List E
  pub periodic : List E
  pub public_values : List F

-- an absent row has no value
abbrev pub row_or_empty : {R : Type 0} {E : Type 0} → (R → List E) → Option R → List E
row_or_empty view None = []
row_or_empty view (Some row) = view row

abbrev pub opened_layout : {F : Type 0} {E : Type 0} → OpenedRows F E → Layout
opened_layout rows = layout_of rows.local rows.next rows.preprocessed_local rows.preprocessed_next rows.public_values rows.periodic

module _ {F E : Type 0} (base : RingOps F) (ring : RingOps E) (embed : F → E) (subgroup : Subgroup E) where
  -- the leaves of a constraint: the opened values, and the subgroup's selectors at zeta
  abbrev pub opened_environment : OpenedRows F E → E → Environment E
  opened_environment rows zeta =
      environment_of (ring_operations ring embed) base.zero ring.zero rows.local rows.next rows.preprocessed_local rows.preprocessed_next rows.public_values rows.periodic
      (first_row_selector ring (λ c. c) subgroup zeta) (last_row_selector ring (λ c. c) subgroup zeta) (transition_selector ring (λ c. c) subgroup zeta)

  -- the sum over j below n of alpha ^ (n - 1 - j) * C_j, over the opened values
  abbrev pub folded_constraints : List (Constraint F) → OpenedRows F E → E → E → E
  folded_constraints constraints rows zeta alpha = folded ring alpha (constraint_values (ring_operations ring embed) (opened_environment rows zeta) constraints)

  -- The folded constraint is Z_H(zeta) times the quotient.
  abbrev pub EquationHolds : List (Constraint F) → OpenedRows F E → E → E → E → Type 0
  EquationHolds constraints rows zeta alpha quotient = folded_constraints constraints rows zeta alpha ≡ ring.mul (subgroup_vanishing ring subgroup.size zeta) quotient

  -- The two preprocessed rows are of one width, and the equation holds.
  pub record ConstraintsHold (constraints : List (Constraint F)) (rows : OpenedRows F E) (zeta alpha quotient : E) : Type 0 where
    pub one_width : length rows.preprocessed_local ≡ length rows.preprocessed_next
    pub balanced : EquationHolds constraints rows zeta alpha quotient

  -- The first fault, and the error that names it.
  pub data ConstraintsFault {X : Type 0} (constraints : List (Constraint F)) (rows : OpenedRows F E) (zeta alpha quotient : E) : VerificationError X → Type 0 where
    two_widths : length rows.preprocessed_local ≢ length rows.preprocessed_next
        → ConstraintsFault constraints rows zeta alpha quotient (InvalidProofShape
        (PreprocessedTraceWidthMismatch (length rows.preprocessed_local) (length rows.preprocessed_local) (length rows.preprocessed_local) (length rows.preprocessed_next)))
    unbalanced : length rows.preprocessed_local ≡ length rows.preprocessed_next → (EquationHolds constraints rows zeta alpha quotient → ⊥)
        → ConstraintsFault constraints rows zeta alpha quotient (OodEvaluationMismatch None)
