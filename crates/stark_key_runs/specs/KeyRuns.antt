-- What runs about keys write, and how they end.
use Rattle.std.specs.Prelude.{◌≡◌, ◌⊎◌, ℕ, Bool, true, List, Option, IfSome, Result, Err, take}
use Rattle.std.specs.Io.KnownBytes.{Appends}
use Rattle.stark_answers.specs.declared.finding.Finding.TheVariants as finding
use Rattle.stark_answers.specs.declared.verdict.RunEnd.{RunEnd}
use Rattle.stark_answers.specs.declared.verdict.RunEnd.TheVariants.{Accepted, BelowFloor, Refused, NotJudged, InputFailed, OutputFailed}
use Rattle.stark_answers.specs.declared.verdict.Verdict.{Verdict}
use Rattle.stark_answers.specs.declared.verdict.Verdict.TheVariants as verdict
use Rattle.stark_cli.specs.Running.{Exchange, Says}
use Rattle.stark_keys.specs.Keys.{OrNotMade}
use Rattle.stark_service.specs.Statements.{OrUnjudged}

-- ---- a key

-- A key's file was written whole, or, where a write failed, a front of it.
abbrev pub WroteKey : RunEnd → List ℕ → Option (List ℕ) → Option (List ℕ) → Type 0
WroteKey Accepted key old new = Appends old new key
WroteKey OutputFailed key old new = (count : ℕ) × Appends old new (take count key)
WroteKey Refused key old new = ⊥
WroteKey NotJudged key old new = ⊥
WroteKey BelowFloor key old new = ⊥
WroteKey InputFailed key old new = ⊥

-- Where the statement's bytes are known, a key was made of them, and its file written; or none, and the line of the verdict that says why; or
-- a read failed.
abbrev pub SaysKey : (List ℕ → Result (List ℕ) Verdict → Type 0) → (List ℕ → List ℕ → Type 0) → Option (List ℕ) → RunEnd → Option (List ℕ) → Option (List ℕ) → Type 0
SaysKey Makes IsKeyFile known end old new = IfSome known (λ statement. (end ≡ InputFailed)
    ⊎ (((key : List ℕ) × IsKeyFile statement key × WroteKey end key old new)
    ⊎ ((v : Verdict) × OrNotMade (Makes statement) (Err v) × (v ≡ verdict.Accepted → ⊥) × Says end (finding.Verdict v) old new)))

-- ---- a verdict with a key

-- A read of one of three failed.
abbrev pub SomeFailed : Bool → Bool → Bool → Type 0
SomeFailed key statement proof = (key ≡ true) ⊎ ((statement ≡ true) ⊎ (proof ≡ true))

-- This is the verdict on the bytes of a statement, a key and a proof, where all three are known, or memory was wanting.
abbrev pub IsJudged : (List ℕ → List ℕ → List ℕ → Verdict → Type 0) → Option (List ℕ) → Option (List ℕ) → Option (List ℕ) → Verdict → Type 0
IsJudged Judges key statement proof v = IfSome key (λ k. IfSome statement (λ s. IfSome proof (λ p. OrUnjudged (Judges s k p) v)))

-- The proof is sound for the statement, where all three are known and the key is the statement's own.
abbrev pub IsSound : (List ℕ → List ℕ → List ℕ → Type 0) → Option (List ℕ) → Option (List ℕ) → Option (List ℕ) → Type 0
IsSound Sound key statement proof = IfSome key (λ k. IfSome statement (λ s. IfSome proof (λ p. Sound s k p)))

-- Where they are known, the line of the verdict was written, and the run ended as it says; or a read failed.
abbrev pub SaysVerdict : (List ℕ → List ℕ → List ℕ → Verdict → Type 0) → Option (List ℕ) → Exchange (List ℕ × List ℕ) → RunEnd → Type 0
SaysVerdict Judges key run end =
    IfSome key (λ k. IfSome run.input (λ i. (end ≡ InputFailed) ⊎ ((v : Verdict) × OrUnjudged (Judges i.0 k i.1) v × Says end (finding.Verdict v) run.old run.new)))
