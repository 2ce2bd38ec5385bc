-- By its first letter a line differs from others.
use Rattle.std.proofs.Common.{◌≡◌, ◌≢◌, ℕ, zero, suc, List, [], ◌∷◌, Option, None, Some, IfSome, take, length, codes, string_bytes, refl, sym, subst, ap, ◌∙◌, inl, inr, arith, append-nil}
use Rattle.std.specs.Prelude.{⊤}
use Rattle.std.proofs.Math.Seq.{take-length}
use Rattle.std.proofs.lemmas.List.{append_cancel_left}
use Rattle.std.specs.Io.KnownBytes.{Appends, Keeps}
use Rattle.stark_answers.specs.Finding.{IsProof, BeginsAsItsKind, finding_bytes}
use Rattle.stark_cli.specs.Running.{IsFrontOfProof, IsNoAnswer, Says, SaysOf, Wrote, first_letter, first_of}
use Rattle.stark_answers.specs.declared.finding.Finding.{Finding}
use Rattle.stark_answers.specs.declared.finding.Finding.TheVariants as finding
use Rattle.stark_answers.specs.declared.task.ProofForm.{ProofForm}
use Rattle.stark_answers.specs.declared.task.ProofForm.TheVariants.{Bytes, Json}
use Rattle.stark_proof_bytes.specs.ProofBytes.{magic}
use Rattle.stark_answers.specs.declared.verdict.Verdict.TheVariants as verdict
use Rattle.stark_answers.specs.declared.verdict.RunEnd.{RunEnd}
use Rattle.stark_answers.specs.declared.verdict.RunEnd.TheVariants.{Accepted, BelowFloor, Refused, NotJudged, InputFailed, OutputFailed}

pub first_of_accepted : (bytes : List ℕ) → take 8 bytes ≡ codes "accepted" → first_of bytes ≡ 97
first_of_accepted [] e = absurd (cc)
first_of_accepted (x ∷ xs) e = let h : x ∷ take 7 xs ≡ 97 ∷ codes "ccepted" = e in cc

first_of_one : (c : ℕ) (bytes : List ℕ) → take 1 bytes ≡ c ∷ [] → first_of bytes ≡ c
first_of_one c [] e = absurd (cc)
first_of_one c (x ∷ xs) e = let h : x ∷ take 0 xs ≡ c ∷ [] = e in cc

first_of_object : (bytes : List ℕ) → take 1 bytes ≡ codes "{" → first_of bytes ≡ 123
first_of_object bytes e = first_of_one 123 bytes e

first_of_bytes : (bytes : List ℕ) → take (length magic) bytes ≡ magic → first_of bytes ≡ 118
first_of_bytes [] e = absurd (cc)
first_of_bytes (x ∷ xs) e = let h : x ∷ take 16 xs ≡ 118 ∷ codes "oskligan proof 2" = e in cc

first_of_text : (bytes : List ℕ) → take 1 bytes ≡ codes "c" → first_of bytes ≡ 99
first_of_text [] e = absurd (cc)
first_of_text (x ∷ xs) e = let h : x ∷ take 0 xs ≡ 99 ∷ [] = e in cc

first_of_row : (bytes : List ℕ) → take 1 bytes ≡ codes "r" → first_of bytes ≡ 114
first_of_row [] e = absurd (cc)
first_of_row (x ∷ xs) e = let h : x ∷ take 0 xs ≡ 114 ∷ [] = e in cc

first_of_few : (bytes : List ℕ) → take 1 bytes ≡ codes "n" → first_of bytes ≡ 110
first_of_few [] e = absurd (cc)
first_of_few (x ∷ xs) e = let h : x ∷ take 0 xs ≡ 110 ∷ [] = e in cc

-- That bits are too few begins by the letter of `not`, and what isn't said of a floor as its kind does.
abbrev pub BeginsAsSaid : Finding → Type 0
BeginsAsSaid (finding.Verdict v) = ⊤
BeginsAsSaid (finding.Proof line) = BeginsAsItsKind (finding.Proof line)
BeginsAsSaid (finding.ProofBytes bytes) = BeginsAsItsKind (finding.ProofBytes bytes)
BeginsAsSaid (finding.Text text) = BeginsAsItsKind (finding.Text text)
BeginsAsSaid finding.Satisfied = ⊤
BeginsAsSaid (finding.Broken row) = BeginsAsItsKind (finding.Broken row)
BeginsAsSaid (finding.TooFewBits line) = take 1 (string_bytes line) ≡ codes "n"

pub kind_said : (f : Finding) → BeginsAsItsKind f → BeginsAsSaid f
kind_said (finding.Verdict v) begins = tt
kind_said (finding.Proof line) begins = begins
kind_said (finding.ProofBytes bytes) begins = begins
kind_said (finding.Text text) begins = begins
kind_said finding.Satisfied begins = tt
kind_said (finding.Broken row) begins = begins
kind_said (finding.TooFewBits line) begins = absurd begins

-- a front of a line begins as the line does
pub first_of_front : (count : ℕ) (line : List ℕ) (c : ℕ) → c ≢ 0 → first_of (take count line) ≡ c → first_of line ≡ c
first_of_front zero [] c some e = e
first_of_front zero (x ∷ xs) c some e = absurd (some (sym e))
first_of_front (suc count) [] c some e = e
first_of_front (suc count) (x ∷ xs) c some e = e

accepted_finding : (f : Finding) → BeginsAsSaid f → first_of (finding_bytes f) ≡ 97 → f ≡ finding.Verdict verdict.Accepted
accepted_finding (finding.Verdict verdict.Accepted) begins e = refl
accepted_finding (finding.Verdict (verdict.Refused why)) begins e = absurd (let h : 114 ≡ 97 = e in omega arith)
accepted_finding (finding.Verdict verdict.BadInput) begins e = absurd (let h : 98 ≡ 97 = e in omega arith)
accepted_finding (finding.Verdict verdict.OutOfMemory) begins e = absurd (let h : 111 ≡ 97 = e in omega arith)
accepted_finding (finding.Proof line) begins e = absurd (let h : 123 ≡ 97 = sym (first_of_object _ begins) ∙ e in omega arith)
accepted_finding (finding.ProofBytes bytes) begins e = absurd (let h : 118 ≡ 97 = sym (first_of_bytes _ begins) ∙ e in omega arith)
accepted_finding (finding.Text text) begins e = absurd (let h : 99 ≡ 97 = sym (first_of_text _ begins) ∙ e in omega arith)
accepted_finding finding.Satisfied begins e = absurd (let h : 115 ≡ 97 = e in omega arith)
accepted_finding (finding.Broken row) begins e = absurd (let h : 114 ≡ 97 = sym (first_of_row _ begins) ∙ e in omega arith)
accepted_finding (finding.TooFewBits line) begins e = absurd (let h : 110 ≡ 97 = sym (first_of_few _ begins) ∙ e in omega arith)

proof_finding : (form : ProofForm) (f : Finding) → BeginsAsSaid f → first_of (finding_bytes f) ≡ first_letter form → IsProof form f
proof_finding Json (finding.Verdict verdict.Accepted) begins e = absurd (let h : 97 ≡ 123 = e in omega arith)
proof_finding Json (finding.Verdict (verdict.Refused why)) begins e = absurd (let h : 114 ≡ 123 = e in omega arith)
proof_finding Json (finding.Verdict verdict.BadInput) begins e = absurd (let h : 98 ≡ 123 = e in omega arith)
proof_finding Json (finding.Verdict verdict.OutOfMemory) begins e = absurd (let h : 111 ≡ 123 = e in omega arith)
proof_finding Json (finding.Text text) begins e = absurd (let h : 99 ≡ 123 = sym (first_of_text _ begins) ∙ e in omega arith)
proof_finding Json finding.Satisfied begins e = absurd (let h : 115 ≡ 123 = e in omega arith)
proof_finding Json (finding.Broken row) begins e = absurd (let h : 114 ≡ 123 = sym (first_of_row _ begins) ∙ e in omega arith)
proof_finding Json (finding.TooFewBits line) begins e = absurd (let h : 110 ≡ 123 = sym (first_of_few _ begins) ∙ e in omega arith)
proof_finding Bytes (finding.Verdict verdict.Accepted) begins e = absurd (let h : 97 ≡ 118 = e in omega arith)
proof_finding Bytes (finding.Verdict (verdict.Refused why)) begins e = absurd (let h : 114 ≡ 118 = e in omega arith)
proof_finding Bytes (finding.Verdict verdict.BadInput) begins e = absurd (let h : 98 ≡ 118 = e in omega arith)
proof_finding Bytes (finding.Verdict verdict.OutOfMemory) begins e = absurd (let h : 111 ≡ 118 = e in omega arith)
proof_finding Bytes (finding.Text text) begins e = absurd (let h : 99 ≡ 118 = sym (first_of_text _ begins) ∙ e in omega arith)
proof_finding Bytes finding.Satisfied begins e = absurd (let h : 115 ≡ 118 = e in omega arith)
proof_finding Bytes (finding.Broken row) begins e = absurd (let h : 114 ≡ 118 = sym (first_of_row _ begins) ∙ e in omega arith)
proof_finding Bytes (finding.TooFewBits line) begins e = absurd (let h : 110 ≡ 118 = sym (first_of_few _ begins) ∙ e in omega arith)
proof_finding Json (finding.Proof line) begins e = refl
proof_finding Json (finding.ProofBytes bytes) begins e = absurd (let h : 118 ≡ 123 = sym (first_of_bytes _ begins) ∙ e in omega arith)
proof_finding Bytes (finding.Proof line) begins e = absurd (let h : 123 ≡ 118 = sym (first_of_object _ begins) ∙ e in omega arith)
proof_finding Bytes (finding.ProofBytes bytes) begins e = refl

some_letter : (form : ProofForm) → first_letter form ≢ 0
some_letter Json = omega arith
some_letter Bytes = omega arith

-- what a run wrote is what it appended
pub wrote : (old new : Option (List ℕ)) (bytes line : List ℕ) → Wrote old new bytes → Appends old new line → bytes ≡ line
wrote None new bytes line w a = absurd w
wrote (Some xs) None bytes line w a = absurd w
wrote (Some xs) (Some ys) bytes line w a = append_cancel_left xs bytes line (sym w ∙ a)

pub wrote_nothing : (old new : Option (List ℕ)) (bytes : List ℕ) → Wrote old new bytes → Keeps old new → bytes ≡ []
wrote_nothing None new bytes w k = absurd w
wrote_nothing (Some xs) None bytes w k = absurd w
wrote_nothing (Some xs) (Some ys) bytes w k = append_cancel_left xs bytes [] (sym w ∙ k ∙ sym (append-nil xs))

pub whole : (bytes line : List ℕ) → bytes ≡ line → bytes ≡ take (length line) line
whole bytes line e = e ∙ sym (take-length line)

-- what a run wrote is the front of the line of what it found
front : (end : RunEnd) (f : Finding) (old new : Option (List ℕ)) (bytes : List ℕ) → Says end f old new → Wrote old new bytes → (count : ℕ) × (bytes ≡ take count (finding_bytes f))
front InputFailed f old new bytes s w = (0, wrote_nothing old new bytes w s)
front OutputFailed f old new bytes s w = (s.0, wrote old new bytes _ w s.1)
front Accepted f old new bytes s w = (length (finding_bytes f), whole bytes (finding_bytes f) (wrote old new bytes _ w s.1))
front Refused f old new bytes s w = (length (finding_bytes f), whole bytes (finding_bytes f) (wrote old new bytes _ w s.1))
front BelowFloor f old new bytes s w = (length (finding_bytes f), whole bytes (finding_bytes f) (wrote old new bytes _ w s.1))
front NotJudged f old new bytes s w = (length (finding_bytes f), whole bytes (finding_bytes f) (wrote old new bytes _ w s.1))

begins : (end : RunEnd) (f : Finding) (old new : Option (List ℕ)) (bytes : List ℕ) (c : ℕ) → c ≢ 0 → Says end f old new → Wrote old new bytes → first_of bytes ≡ c → first_of (finding_bytes f) ≡ c
begins end f old new bytes c some s w e =
    let part = front end f old new bytes s w in
    first_of_front part.0 (finding_bytes f) c some (ap first_of (sym part.1) ∙ e)

module _ {I : Type 0} (memory : Finding) (no_answer : IsNoAnswer memory) (IsFound : I → Finding → Type 0) (kinds : (input : I) (f : Finding) → IsFound input f → BeginsAsSaid f) where
  -- In every run, what begins with `accepted` is written only where that is found.
  accepted_only : (input : I) (end : RunEnd) (old new : Option (List ℕ)) (bytes : List ℕ)
      → SaysOf memory IsFound input end old new → Wrote old new bytes → take 8 bytes ≡ codes "accepted" → IsFound input (finding.Verdict verdict.Accepted)
  accepted_only input end old new bytes s w e =
      let first = begins end s.0 old new bytes 97 (omega arith) s.2 w (first_of_accepted bytes e) in
      elim s.1 [
        | inl here ↦ subst (λ u. IsFound input u) (accepted_finding s.0 (kinds input s.0 here) first) here
        | inr lacks ↦ absurd (no_answer.not_accepted (sym (ap (λ g. first_of (finding_bytes g)) lacks) ∙ first))
      ]

  -- What begins as a proof in a form does is the front of one.
  proved_only : (form : ProofForm) (input : I) (end : RunEnd) (old new : Option (List ℕ)) (bytes : List ℕ)
      → SaysOf memory IsFound input end old new → Wrote old new bytes → take 1 bytes ≡ first_letter form ∷ [] → IsFrontOfProof IsFound form input bytes
  proved_only form input end old new bytes s w e =
      let first = begins end s.0 old new bytes (first_letter form) (some_letter form) s.2 w (first_of_one (first_letter form) bytes e) in
      let part = front end s.0 old new bytes s.2 w in
      elim s.1 [
        | inl here ↦ (s.0, proof_finding form s.0 (kinds input s.0 here) first, here, part.0, part.1)
        | inr lacks ↦ absurd (no_answer.no_proof form (sym (ap (λ g. first_of (finding_bytes g)) lacks) ∙ first))
      ]

  -- the same for readers that may not tell their bytes, and of what follows from what is found
  pub accepted_only_known : (Holds : I → Type 0) → ((input : I) → IsFound input (finding.Verdict verdict.Accepted) → Holds input) → (known : Option I) (end : RunEnd) (old new : Option (List ℕ))
      → IfSome known (λ input. SaysOf memory IsFound input end old new)
      → IfSome known (λ input. (bytes : List ℕ) → Wrote old new bytes → take 8 bytes ≡ codes "accepted" → Holds input)
  accepted_only_known Holds follows None end old new s = tt
  accepted_only_known Holds follows (Some input) end old new s = λ bytes w e. follows input (accepted_only input end old new bytes s w e)

  pub proved_only_known : (form : ProofForm) (Holds : I → List ℕ → Type 0) → ((input : I) (bytes : List ℕ) → IsFrontOfProof IsFound form input bytes → Holds input bytes) → (known : Option I) (end : RunEnd) (old new : Option (List ℕ))
      → IfSome known (λ input. SaysOf memory IsFound input end old new)
      → IfSome known (λ input. (bytes : List ℕ) → Wrote old new bytes → take 1 bytes ≡ first_letter form ∷ [] → Holds input bytes)
  proved_only_known form Holds follows None end old new s = tt
  proved_only_known form Holds follows (Some input) end old new s = λ bytes w e. follows input bytes (proved_only form input end old new bytes s w e)
