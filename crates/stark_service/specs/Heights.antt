-- The height that a statement fixes.
use Rattle.std.specs.Prelude.{◌≡◌, ◌==◌, ◌^◌, ℕ, Bool, true, false, if◌then◌else◌, nat_lt, List, length, Option, None, Some}
use Rattle.stark_transcript.specs.declared.error.InvalidProofShapeError.{InvalidProofShapeError}
use Rattle.stark_transcript.specs.declared.error.InvalidProofShapeError.TheVariants.{DegreeBitsTooSmall, DegreeBitsTooLarge}
use Rattle.stark_answers.specs.declared.finding.Finding.{Finding}
use Rattle.stark_answers.specs.declared.finding.Finding.TheVariants as finding
use Rattle.stark_answers.specs.declared.verdict.Refusal.TheVariants as refusal
use Rattle.stark_answers.specs.declared.verdict.Verdict.{Verdict}
use Rattle.stark_answers.specs.declared.verdict.Verdict.TheVariants as verdict

-- ---- of a proof

-- The fault of a proof of another height: the fixed one is the least and the greatest.
abbrev pub height_fault : Option ℕ → ℕ → Option InvalidProofShapeError
height_fault None got = None
height_fault (Some fixed) got = if nat_lt got fixed then Some (DegreeBitsTooSmall None fixed got) else (if nat_lt fixed got then Some (DegreeBitsTooLarge None fixed got) else None)

-- A proof of another height is refused for it; else this is said.
abbrev pub UnlessOfOtherHeight : Option InvalidProofShapeError → (Verdict → Type 0) → Verdict → Type 0
UnlessOfOtherHeight None IsSaid v = IsSaid v
UnlessOfOtherHeight (Some fault) IsSaid v = v ≡ verdict.Refused (refusal.InvalidProofShape fault)

-- ---- of a trace

-- whether a trace has as many rows as are fixed
abbrev pub is_fixed_height : Option ℕ → ℕ → Bool
is_fixed_height None rows = true
is_fixed_height (Some fixed) rows = rows == 2 ^ fixed

-- whether the rows that a file spells are of this number, where it spells any
abbrev pub has_fixed_height : {R : Type 0} → Option ℕ → Option (List R) → Bool
has_fixed_height fixed None = true
has_fixed_height fixed (Some rows) = is_fixed_height fixed (length rows)

-- Rows of another height are bad input; else this is found.
abbrev pub AtFixedHeight : Bool → (Finding → Type 0) → Finding → Type 0
AtFixedHeight true IsFound f = IsFound f
AtFixedHeight false IsFound f = f ≡ finding.Verdict verdict.BadInput
