-- What a run writes of what is found, and how it ends, over any input.
use Rattle.std.specs.Prelude.{◌≡◌, ◌⊎◌, ℕ, List, [], ◌∷◌, ◌++◌, Option, None, Some, take, codes, IfSome, ⊤}
use Rattle.std.specs.Io.KnownBytes.{Appends, Keeps}
use Rattle.stark_answers.specs.Finding.{IsProof, IsText, finding_bytes, finding_end}
use Rattle.stark_answers.specs.Verdict.{line_of}
use Rattle.stark_answers.specs.declared.finding.Finding.{Finding}
use Rattle.stark_answers.specs.declared.finding.Finding.TheVariants as finding
use Rattle.stark_answers.specs.declared.task.ProofForm.{ProofForm}
use Rattle.stark_answers.specs.declared.task.ProofForm.TheVariants.{Bytes, Json}
use Rattle.stark_answers.specs.declared.verdict.Verdict.TheVariants as verdict
use Rattle.stark_answers.specs.declared.verdict.RunEnd.{RunEnd}
use Rattle.stark_answers.specs.declared.verdict.RunEnd.TheVariants.{Accepted, BelowFloor, Refused, NotJudged, InputFailed, OutputFailed}

-- This is the readers' input, where they tell their bytes.
abbrev pub IsInput : {I : Type 0} → Option I → I → Type 0
IsInput known input = IfSome known (λ i. input ≡ i)

-- The bytes of two readers, where both tell theirs.
abbrev pub both : Option (List ℕ) → Option (List ℕ) → Option (List ℕ × List ℕ)
both None second = None
both (Some bytes) None = None
both (Some bytes) (Some others) = Some (bytes, others)

-- What a run reads, where that is known, and what its writer holds before it and after it.
pub record Exchange (I : Type 0) : Type 0 where
  pub input : Option I
  pub old : Option (List ℕ)
  pub new : Option (List ℕ)

-- It is a proof in one form or the other.
abbrev pub IsSomeProof : Finding → Type 0
IsSomeProof (finding.Proof line) = ⊤
IsSomeProof (finding.ProofBytes bytes) = ⊤
IsSomeProof (finding.Verdict v) = ⊥
IsSomeProof (finding.Text text) = ⊥
IsSomeProof finding.Satisfied = ⊥
IsSomeProof (finding.Broken row) = ⊥
IsSomeProof (finding.TooFewBits line) = ⊥

-- A run ended so that found f, and wrote from old to new.
abbrev pub Says : RunEnd → Finding → Option (List ℕ) → Option (List ℕ) → Type 0
Says InputFailed f old new = Keeps old new
Says OutputFailed f old new = (count : ℕ) × Appends old new (take count (finding_bytes f))
Says Accepted f old new = (finding_end f ≡ Accepted) × Appends old new (finding_bytes f)
Says Refused f old new = (finding_end f ≡ Refused) × Appends old new (finding_bytes f)
Says NotJudged f old new = (finding_end f ≡ NotJudged) × Appends old new (finding_bytes f)
Says BelowFloor f old new = (finding_end f ≡ BelowFloor) × Appends old new (finding_bytes f)

-- A run found a proof and said so, or what is no proof.
pub record SaidProof (end : RunEnd) (f : Finding) (old new : Option (List ℕ)) : Type 0 where
  pub is_proof : IsSomeProof f
  pub says : Says end f old new

pub record SaidAnswer (end : RunEnd) (f : Finding) (old new : Option (List ℕ)) : Type 0 where
  pub no_proof : IsSomeProof f → ⊥
  pub says : Says end f old new

-- It says that the input is bad.
abbrev pub SaysBadInput : RunEnd → Option (List ℕ) → Option (List ℕ) → Type 0
SaysBadInput end old new = Says end (finding.Verdict verdict.BadInput) old new

-- The run wrote these bytes, where it is known what the writer holds.
abbrev pub Wrote : Option (List ℕ) → Option (List ℕ) → List ℕ → Type 0
Wrote None new bytes = ⊥
Wrote (Some xs) None bytes = ⊥
Wrote (Some xs) (Some ys) bytes = ys ≡ xs ++ bytes

-- Where the run wrote `accepted`, this holds of the input, if it is known.
abbrev pub WhereAccepted : {I : Type 0} → Option I → Option (List ℕ) → Option (List ℕ) → (I → Type 0) → Type 0
WhereAccepted known old new holds = IfSome known (λ input. (bytes : List ℕ) → Wrote old new bytes → take 8 bytes ≡ codes "accepted" → holds input)

-- the letter by which a proof in a form begins: an object's brace, or that of the text with which its bytes begin
abbrev pub first_letter : ProofForm → ℕ
first_letter Json = 123
first_letter Bytes = 118

-- Where the run wrote what begins as a proof in a form does, this holds of the input, if it is known, and of what was written.
abbrev pub WhereForm : {I : Type 0} → ProofForm → Option I → Option (List ℕ) → Option (List ℕ) → (I → List ℕ → Type 0) → Type 0
WhereForm form known old new holds = IfSome known (λ input. (bytes : List ℕ) → Wrote old new bytes → take 1 bytes ≡ first_letter form ∷ [] → holds input bytes)

-- It holds where what was written begins as an object does.
abbrev pub WhereObject : {I : Type 0} → Option I → Option (List ℕ) → Option (List ℕ) → (I → List ℕ → Type 0) → Type 0
WhereObject known old new holds = WhereForm Json known old new holds

-- The run ended as a finding asks that isn't of a floor.
abbrev pub IsFindingEnd : RunEnd → Type 0
IsFindingEnd end = (end ≡ Accepted) ⊎ ((end ≡ Refused) ⊎ (end ≡ NotJudged))

abbrev pub first_of : List ℕ → ℕ
first_of [] = 0
first_of (x ∷ xs) = x

-- What is said for want of memory ends no run well, and begins neither as `accepted` nor as a proof does.
pub record IsNoAnswer (memory : Finding) : Type 0 where
  pub no_end : finding_end memory ≡ Accepted → ⊥
  pub not_accepted : first_of (finding_bytes memory) ≡ 97 → ⊥
  pub no_proof : (form : ProofForm) → first_of (finding_bytes memory) ≡ first_letter form → ⊥

-- Over what is said for want of memory, and what is found of an input.
module _ {I : Type 0} (memory : Finding) (IsFound : I → Finding → Type 0) where
  -- This is found, or memory was wanting.
  abbrev pub IsFoundOrLacksMemory : I → Finding → Type 0
  IsFoundOrLacksMemory input f = IsFound input f ⊎ (f ≡ memory)

  -- It was found of the readers' input, or memory was wanting.
  abbrev pub Found : Option I → Finding → Type 0
  Found known f = (input : I) × IsInput known input × IsFoundOrLacksMemory input f

  -- A run found something of the readers' input and said so.
  abbrev pub SaysFound : Option I → RunEnd → Option (List ℕ) → Option (List ℕ) → Type 0
  SaysFound known end old new = (f : Finding) × Found known f × Says end f old new

  -- A run found a proof of the readers' input, and said so.
  abbrev pub SaysProof : Option I → RunEnd → Option (List ℕ) → Option (List ℕ) → Type 0
  SaysProof known end old new = (f : Finding) × IsSomeProof f × Found known f × Says end f old new

  -- A run found what is no proof, and said so.
  abbrev pub SaysAnswer : Option I → RunEnd → Option (List ℕ) → Option (List ℕ) → Type 0
  SaysAnswer known end old new = (f : Finding) × (IsSomeProof f → ⊥) × Found known f × Says end f old new

  -- A run said what is found of this input, or that memory is wanting.
  abbrev pub SaysOf : I → RunEnd → Option (List ℕ) → Option (List ℕ) → Type 0
  SaysOf input end old new = (f : Finding) × IsFoundOrLacksMemory input f × Says end f old new

module _ {I : Type 0} (IsFound : I → Finding → Type 0) where
  -- It is found of an input that is the readers', where they tell their bytes.
  abbrev pub FindsSome : Option I → Finding → Type 0
  FindsSome known f = (input : I) × IsInput known input × IsFound input f

  -- An input was accepted and `accepted` was written; or a proof, a text or that a trace satisfies its AIR was found and written.
  abbrev pub AcceptsOrTells : Option I → Option (List ℕ) → Option (List ℕ) → Type 0
  AcceptsOrTells known old new = (FindsSome known (finding.Verdict verdict.Accepted) × Appends old new (line_of verdict.Accepted))
      ⊎ ((f : Finding) × (IsSomeProof f ⊎ (IsText f ⊎ (f ≡ finding.Satisfied))) × FindsSome known f × Appends old new (finding_bytes f))

  -- These bytes are the front of a proof in a form, which is found of an input.
  abbrev pub IsFrontOfProof : ProofForm → I → List ℕ → Type 0
  IsFrontOfProof form input bytes = (f : Finding) × IsProof form f × IsFound input f × (count : ℕ) × (bytes ≡ take count (finding_bytes f))
