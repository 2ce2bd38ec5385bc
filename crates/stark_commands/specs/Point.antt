-- What a check finds of one opened point, over any field and extension.
use Rattle.std.specs.Prelude.{◌≢◌, ℕ, ◌-◌, ◌^◌, List, map}
use Rattle.stark_support.specs.Ring.{RingOps}
use Rattle.stark_support.specs.Coset.{TwoAdicCoset, coset_size, coset_vanishing}
use Rattle.stark_support.specs.Periodic.{periodic_value}
use Rattle.stark_support.specs.Recomposition.{recomposition}
use Rattle.stark_support.specs.Subgroup.{subgroup_of}
use Rattle.stark_support.specs.Selectors.{Subgroup}
use Rattle.stark_air.specs.Tree.{Constraint}
use Rattle.stark_protocol.specs.Equation.{OpenedRows, EquationHolds}
use Rattle.stark_protocol.specs.Sizes.{chunk_shifts}
use Rattle.stark_answers.specs.declared.verdict.Verdict.{Verdict}
use Rattle.stark_answers.specs.declared.verdict.Verdict.TheVariants as verdict
use Rattle.stark_answers.specs.declared.verdict.Refusal.TheVariants.{OodPointInDomain, OodEvaluationMismatch, PeriodicColumn, QuotientDomainTooLarge, Pcs, GrindExhausted, AirTooLarge, OutOfMemory, InvalidProofShape, InvalidOpeningArgument, RandomizationError, NextPointUnavailable, InvalidAlphaPowWitness, InvalidOodPowWitness}

-- The verdict says whether a fact holds, unless memory is wanting.
abbrev pub TellsEquation : Type 0 → Verdict → Type 0
TellsEquation Holds verdict.Accepted = Holds
TellsEquation Holds (verdict.Refused OodPointInDomain) = ⊥
TellsEquation Holds (verdict.Refused OodEvaluationMismatch) = Holds → ⊥
TellsEquation Holds (verdict.Refused PeriodicColumn) = ⊥
TellsEquation Holds (verdict.Refused QuotientDomainTooLarge) = ⊥
TellsEquation Holds (verdict.Refused Pcs) = ⊥
TellsEquation Holds (verdict.Refused GrindExhausted) = ⊥
TellsEquation Holds (verdict.Refused AirTooLarge) = ⊥
TellsEquation Holds (verdict.Refused OutOfMemory) = Unit {0}
TellsEquation Holds (verdict.Refused (InvalidProofShape fault)) = ⊥
TellsEquation Holds (verdict.Refused InvalidOpeningArgument) = ⊥
TellsEquation Holds (verdict.Refused RandomizationError) = ⊥
TellsEquation Holds (verdict.Refused NextPointUnavailable) = ⊥
TellsEquation Holds (verdict.Refused InvalidAlphaPowWitness) = ⊥
TellsEquation Holds (verdict.Refused InvalidOodPowWitness) = ⊥
TellsEquation Holds verdict.BadInput = ⊥
TellsEquation Holds verdict.OutOfMemory = ⊥

abbrev pub EquationVerdict : {F E : Type 0} → RingOps F → RingOps E → (F → E) → Subgroup E → List (Constraint F) → OpenedRows F E → E → E → E → Verdict → Type 0
EquationVerdict base ring embed subgroup constraints rows zeta alpha quotient verdict =
    TellsEquation (EquationHolds base ring embed subgroup constraints rows zeta alpha quotient) verdict

-- A point where a coset's vanishing value isn't zero. Such a word stays folded over a field's own operations, which would compute.
unfoldable pub IsOutsideCoset : {F E : Type 0} → RingOps E → (E → E) → (F → E) → TwoAdicCoset F → E → Type 0
IsOutsideCoset ring inverse embed coset zeta = coset_vanishing ring (λ c. c) inverse (coset_size coset) (embed coset.shift) zeta ≢ ring.zero

-- The verdict on the equation of the rows, of which the periodic one is filled from columns taken at zeta, with the quotient of chunks.
unfoldable pub PointVerdict : {F E C W : Type 0} → RingOps F → (F → F) → (ℕ → F) → RingOps E → (E → E) → (F → E) → List E → TwoAdicCoset F → TwoAdicCoset F → ℕ → List (Constraint F)
    → (C → List F) → List C → (W → List E) → List W → (List E → OpenedRows F E) → E → E → Verdict → Type 0
PointVerdict base base_inverse root ring inverse embed basis coset whole log_chunks constraints entries columns coordinates chunks rows zeta alpha verdict =
    EquationVerdict base ring embed (subgroup_of inverse embed root coset) constraints
    (rows (map (λ column. periodic_value base base_inverse (root coset.log_size) (coset_size coset) ring embed (entries column) zeta) columns)) zeta alpha
    (recomposition ring ring (λ c. c) inverse (2 ^ (whole.log_size - log_chunks)) basis (chunk_shifts base root embed whole log_chunks) (map coordinates chunks) zeta) verdict
