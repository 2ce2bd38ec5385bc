-- The check of an AIR at one point, over the extension of degree four of the field of 12289.
use Rattle.std.specs.Prelude.{◌≡◌, ◌⊎◌, ◌≤◌, ℕ, ◌+◌, ◌^◌, List, map, length, Option, None, Some, if◌then◌else◌, ◌==◌, nat_le}
use Rattle.stark_support.specs.Ring.{FieldLaws}
use Rattle.stark_support.specs.FieldFacts.{if_same}
use Rattle.stark_support.specs.Powers.{power}
use Rattle.stark_support.specs.Coset.{TwoAdicCoset, subgroup_vanishing}
use Rattle.stark_support.specs.Selectors.{Subgroup}
use Rattle.stark_support.specs.Subgroup.{subgroup_of}
use Rattle.stark_support.specs.Recomposition.{recomposition}
use Rattle.stark_support.specs.Periodic.{first_fault, periodic_value}
use Rattle.stark_support.specs.declared.periodic.PeriodicColumnShapeError.{PeriodicColumnShapeError}
use Rattle.stark_fields.specs.Residues.{residue, residue_ring, residue_inverse}
use Rattle.stark_fields.specs.SmallResidues.{small_laws, eleven}
use Rattle.stark_fields.specs.PrimeField.{root}
use Rattle.stark_fields.specs.Ext4Field.{ext4_inverse, ext4_laws, embedded, basis_of}
use Rattle.stark_protocol.specs.Equation.{OpenedRows, EquationHolds, folded_constraints}
use Rattle.stark_answers.specs.CheckedAir.{CheckedAir, shape_of}
use Rattle.stark_commands.specs.Airs.{IsCutInto}
use Rattle.stark_commands.specs.Input.{CheckNumbers, Base, Extension, elements, has_shape, numbers_in, zeros}
use Rattle.stark_protocol.specs.Sizes.{chunk_shifts, quotient_coset}
use Rattle.stark_answers.specs.declared.verdict.Verdict.{Verdict}
use Rattle.stark_answers.specs.declared.verdict.Verdict.TheVariants.{Accepted, Refused, BadInput}
use Rattle.stark_answers.specs.declared.verdict.Refusal.TheVariants.{OodPointInDomain, OodEvaluationMismatch, OutOfMemory, PeriodicColumn, QuotientDomainTooLarge}

abbrev pub inverse_of : Extension → Extension
inverse_of = ext4_inverse residue_ring residue_inverse (residue 11)

abbrev pub laws_of_elements : FieldLaws elements inverse_of
laws_of_elements = ext4_laws small_laws (residue 11) eleven

abbrev pub element_of : Base → Extension
element_of = embedded residue_ring

-- H: the points h^i, with h of order 2 ^ log_height
abbrev pub trace_coset : ℕ → TwoAdicCoset Base
trace_coset log_height = record { shift = residue 1; log_size = log_height }

abbrev pub trace_subgroup : ℕ → Subgroup Extension
trace_subgroup log_height = subgroup_of inverse_of element_of root (trace_coset log_height)

-- Z_H at zeta
abbrev pub vanishing : CheckNumbers → Extension
vanishing m = subgroup_vanishing elements (2 ^ m.log_height) m.zeta

-- the fault of the first periodic column that doesn't fit the height
abbrev pub periodic_fault : CheckedAir Base → CheckNumbers → Option PeriodicColumnShapeError
periodic_fault air m = first_fault (2 ^ m.log_height) 0 (map length air.periodic_columns)

-- the periodic columns' values at zeta
abbrev pub periodic_values : CheckedAir Base → CheckNumbers → List Extension
periodic_values air m = map (λ column. periodic_value residue_ring residue_inverse (root m.log_height) (2 ^ m.log_height) elements element_of column m.zeta) air.periodic_columns

-- No next row of preprocessed columns is read: it is zeros.
abbrev pub opened_rows : CheckedAir Base → CheckNumbers → OpenedRows Base Extension
opened_rows air m = record {
  local = m.local;
  next = m.next;
  preprocessed_local = m.preprocessed_local;
  preprocessed_next = zeros air.layout.preprocessed;
  periodic = periodic_values air m;
  public_values = m.public_values;
}

-- The quotient's value at zeta: its chunks stand on the parts of the coset of the field's generator.
abbrev pub quotient : ℕ → CheckNumbers → Extension
quotient log_chunks m = recomposition elements elements (λ c. c) inverse_of (2 ^ m.log_height) (basis_of residue_ring)
    (chunk_shifts residue_ring root element_of (quotient_coset residue_ring (residue 11) (trace_coset m.log_height) log_chunks) log_chunks) m.chunks m.zeta

abbrev pub folded : CheckedAir Base → CheckNumbers → Extension
folded air m = folded_constraints residue_ring elements element_of (trace_subgroup m.log_height) air.constraints (opened_rows air m) m.zeta m.alpha

-- The folded constraints are the vanishing value times the quotient.
abbrev pub IsBalanced : CheckedAir Base → ℕ → CheckNumbers → Type 0
IsBalanced air log_chunks m = EquationHolds residue_ring elements element_of (trace_subgroup m.log_height) air.constraints (opened_rows air m) m.zeta m.alpha (quotient log_chunks m)

-- zeta is a point of H
abbrev pub IsPointOfH : CheckNumbers → Type 0
IsPointOfH m = (i : ℕ) × (m.zeta ≡ power elements (element_of (root m.log_height)) i)

-- The quotient is cut into as many chunks as there are, on domains of the field; zeta lies outside H, the periodic columns
-- fit H, and the folded constraints are the vanishing value times the quotient.
pub record CheckHolds (air : CheckedAir Base) (log_chunks : ℕ) (m : CheckNumbers) : Type 0 where
  pub cut : IsCutInto air log_chunks
  pub within : m.log_height + log_chunks ≤ 12
  pub chunks : length m.chunks ≡ 2 ^ log_chunks
  pub outside : IsPointOfH m → ⊥
  pub fitting : periodic_fault air m ≡ None
  pub balanced : IsBalanced air log_chunks m

-- the first value where there is none, else the second
abbrev pub if_none : {X V : Type 0} → Option X → V → V → V
if_none None without other = without
if_none (Some x) without other = other

-- what is found at zeta
unfoldable pub found_at_point : CheckedAir Base → ℕ → CheckNumbers → Verdict
found_at_point air log_chunks m =
    if_same laws_of_elements (vanishing m) elements.zero (Refused OodPointInDomain)
    (if_none (periodic_fault air m)
    (if_same laws_of_elements (folded air m) (elements.mul (vanishing m) (quotient log_chunks m)) Accepted (Refused OodEvaluationMismatch))
    (Refused PeriodicColumn))

-- what is found of numbers of the AIR's widths and counts, where the quotient is cut into 2 ^ log_chunks chunks
unfoldable pub checked : CheckedAir Base → ℕ → CheckNumbers → Verdict
checked air log_chunks m =
    if nat_le (m.log_height + log_chunks) 12 then (if length m.chunks == 2 ^ log_chunks then found_at_point air log_chunks m else BadInput)
    else Refused QuotientDomainTooLarge

-- what is found of numbers, if they were read
abbrev pub check_verdict : CheckedAir Base → ℕ → Option CheckNumbers → Verdict
check_verdict air log_chunks None = BadInput
check_verdict air log_chunks (Some m) = if has_shape (shape_of air) m then checked air log_chunks m else BadInput

-- what is found of the bytes of an input
abbrev pub verdict_on_bytes : CheckedAir Base → ℕ → List ℕ → Verdict
verdict_on_bytes air log_chunks bytes = check_verdict air log_chunks (numbers_in (shape_of air) bytes)

-- The domain of a quotient of 2 ^ log_chunks chunks.
abbrev pub whole_coset : ℕ → ℕ → TwoAdicCoset Base
whole_coset log_height log_chunks = quotient_coset residue_ring (residue 11) (trace_coset log_height) log_chunks

-- The verdict is this one, or memory was wanting.
abbrev pub IsOrLacksMemory : Verdict → Verdict → Type 0
IsOrLacksMemory owed verdict = (verdict ≡ owed) ⊎ (verdict ≡ Refused OutOfMemory)

-- The verdict is the one that is owed, however many chunks an AIR's quotient is cut into, or memory was wanting.
abbrev pub IsOwed : CheckedAir Base → (CheckedAir Base → ℕ → Verdict) → Verdict → Type 0
IsOwed air owed verdict = (log_chunks : ℕ) → IsCutInto air log_chunks → IsOrLacksMemory (owed air log_chunks) verdict
