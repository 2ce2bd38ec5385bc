-- Verdicts on proofs that are worth enough.
use Rattle.std.specs.Prelude.{◌≡◌, ◌⊎◌, ℕ, ◌<◌, ◌≤◌, List, ◌++◌, codes, Option, None, Some, option_map, Result, Ok, Err, ⊤}
use Rattle.std.specs.Fmt.{decimal}
use Rattle.stark_proof.specs.ProofView.{ProofView}
use Rattle.stark_statement.specs.Configuration.{FriNumbers}
use Rattle.stark_answers.specs.Verdict.{end_of, line_of}
use Rattle.stark_answers.specs.declared.verdict.RunEnd.{RunEnd}
use Rattle.stark_answers.specs.declared.verdict.RunEnd.TheVariants as ends
use Rattle.stark_answers.specs.declared.verdict.Verdict.{Verdict}
use Rattle.stark_answers.specs.declared.verdict.Verdict.TheVariants as verdict
use Rattle.stark_service.specs.declared.floor.FloorVerdict.{FloorVerdict}
use Rattle.stark_service.specs.declared.floor.FloorVerdict.TheVariants.{Judged, NotJudged}
use Rattle.stark_service.specs.declared.security.SecurityBits.{SecurityBits}
use Rattle.stark_service.specs.declared.worth.SecurityError.{SecurityError}
use Rattle.stark_service.specs.declared.worth.SecurityError.TheVariants.{NotStated, Statement, TooHigh}

-- This is answered, or memory was wanting.
abbrev pub OrFloorLacksMemory : (FloorVerdict → Type 0) → FloorVerdict → Type 0
OrFloorLacksMemory IsAnswered a = (a ≡ Judged verdict.OutOfMemory) ⊎ IsAnswered a

-- the line that says it
abbrev pub floor_line : FloorVerdict → List ℕ
floor_line (Judged v) = line_of v
floor_line (NotJudged bits) = codes "not judged: worth " ++ (decimal bits ++ codes " proved bits at this height\n")

-- how a run ends that has written it
abbrev pub floor_end : FloorVerdict → RunEnd
floor_end (Judged v) = end_of v
floor_end (NotJudged bits) = ends.BelowFloor

-- The logarithm of the height that a proof speaks of, by the scheme with which it is read; none where there is no proof.
abbrev pub height_by : {K L E P Q F : Type 0} → Option FriNumbers → Option (ProofView K E P F) → Option (ProofView L E Q F) → Option ℕ
height_by (Some numbers) by_fri in_the_clear = option_map (λ p. p.degree_bits) by_fri
height_by None by_fri in_the_clear = option_map (λ p. p.degree_bits) in_the_clear

-- The bits that are answered, none where none are stated or no trace is so high.
abbrev pub are_proved_bits : Result SecurityBits SecurityError → ℕ
are_proved_bits (Ok bits) = bits.proved
are_proved_bits (Err error) = 0

-- There is a statement within the limits.
abbrev pub IsOfStatement : Result SecurityBits SecurityError → Type 0
IsOfStatement (Ok bits) = ⊤
IsOfStatement (Err (Statement v)) = ⊥
IsOfStatement (Err TooHigh) = ⊤
IsOfStatement (Err NotStated) = ⊤

-- By what is answered of a statement's proofs at a height these are their bits; or there is no statement within the limits.
abbrev pub IsWorthOf : (Result SecurityBits SecurityError → Type 0) → Option ℕ → Type 0
IsWorthOf Answer (Some bits) = (answer : Result SecurityBits SecurityError) × Answer answer × IsOfStatement answer × (bits ≡ are_proved_bits answer)
IsWorthOf Answer None = (answer : Result SecurityBits SecurityError) × Answer answer × (IsOfStatement answer → ⊥)

-- With the height that a proof speaks of, and what is answered of a statement's proofs at a height.
module _ (Height : ℕ → Type 0) (Security : ℕ → Result SecurityBits SecurityError → Type 0) where
  -- These bits are proved at the proof's height.
  abbrev pub AreWorth : ℕ → Type 0
  AreWorth bits = (k : ℕ) × Height k × IsWorthOf (Security k) (Some bits)

  -- These are the proof's bits; or there is no proof, or no statement within the limits.
  abbrev pub IsWorthOfProof : Option ℕ → Type 0
  IsWorthOfProof (Some bits) = AreWorth bits
  IsWorthOfProof None = ((k : ℕ) → Height k → ⊥) ⊎ ((k : ℕ) × Height k × IsWorthOf (Security k) None)

  -- Fewer bits are proved than are asked for, and nothing else is said; or this is the verdict, and no fewer are, unless there is no proof or
  -- no statement within the limits.
  abbrev pub IsFloored : (Verdict → Type 0) → (floor : ℕ) → FloorVerdict → Type 0
  IsFloored IsVerdict floor (NotJudged bits) = AreWorth bits × (bits < floor)
  IsFloored IsVerdict floor (Judged v) = IsVerdict v × (IsWorthOfProof None ⊎ ((bits : ℕ) × AreWorth bits × (floor ≤ bits)))
