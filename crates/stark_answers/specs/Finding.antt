-- What is found of an input, and what is written of it.
use Rattle.std.specs.Prelude.{◌≡◌, ℕ, List, length, take, codes, string_bytes, ⊤}
use Rattle.stark_proof_bytes.specs.ProofBytes.{magic}
use Rattle.stark_answers.specs.Verdict.{line_of, end_of, unjudged}
use Rattle.stark_answers.specs.declared.finding.Finding.{Finding}
use Rattle.stark_answers.specs.declared.finding.Finding.TheVariants.{Broken, Proof, ProofBytes, Satisfied, Text, TooFewBits, Verdict}
use Rattle.stark_answers.specs.declared.task.ProofForm.{ProofForm}
use Rattle.stark_answers.specs.declared.task.ProofForm.TheVariants.{Bytes, Json}
use Rattle.stark_answers.specs.declared.task.TraceTask.{TraceTask}
use Rattle.stark_answers.specs.declared.task.TraceTask.TheVariants.{Check, Prove, ProveUnchecked}
use Rattle.stark_answers.specs.declared.verdict.RunEnd.{RunEnd}
use Rattle.stark_answers.specs.declared.verdict.RunEnd.TheVariants.{Accepted, BelowFloor, Refused}

-- what is written, a text with its newline
abbrev pub finding_bytes : Finding → List ℕ
finding_bytes (Verdict v) = line_of v
finding_bytes (Proof line) = string_bytes line
finding_bytes (ProofBytes bytes) = bytes.items
finding_bytes (Text text) = string_bytes text
finding_bytes Satisfied = codes "satisfied\n"
finding_bytes (Broken row) = string_bytes row.lines
finding_bytes (TooFewBits line) = string_bytes line

-- how a run ends that has written it
abbrev pub finding_end : Finding → RunEnd
finding_end (Verdict v) = end_of v
finding_end (Proof line) = Accepted
finding_end (ProofBytes bytes) = Accepted
finding_end (Text text) = Accepted
finding_end Satisfied = Accepted
finding_end (Broken row) = Refused
finding_end (TooFewBits line) = BelowFloor

-- It is a proof in this form.
abbrev pub IsProof : ProofForm → Finding → Type 0
IsProof form (Verdict v) = ⊥
IsProof form (Proof line) = form ≡ Json
IsProof form (ProofBytes bytes) = form ≡ Bytes
IsProof form (Text text) = ⊥
IsProof form Satisfied = ⊥
IsProof form (Broken row) = ⊥
IsProof form (TooFewBits line) = ⊥

-- Where it is a proof, this holds of its form and of what is written.
abbrev pub WhereProof : (ProofForm → List ℕ → Type 0) → Finding → Type 0
WhereProof Holds f = (form : ProofForm) → IsProof form f → Holds form (finding_bytes f)

-- Where it is a proof, it is a line of JSON, and this holds of that.
abbrev pub WhereLine : (List ℕ → Type 0) → Finding → Type 0
WhereLine Holds f = WhereProof (λ form file. (form ≡ Json) × Holds file) f

-- Where it is a proof of a trace that was checked first, it is accepted as it is written.
abbrev pub IsAcceptedWhereProved : TraceTask → (List ℕ → Type 0) → Finding → Type 0
IsAcceptedWhereProved asked Accepts f = (form : ProofForm) → asked ≡ Prove form → IsProof form f → Accepts (finding_bytes f)

-- A proof is asked for in this form.
abbrev pub AsksFor : ProofForm → TraceTask → Type 0
AsksFor form Check = ⊥
AsksFor form (Prove asked) = form ≡ asked
AsksFor form (ProveUnchecked asked) = form ≡ asked

-- It is a text.
abbrev pub IsText : Finding → Type 0
IsText (Verdict v) = ⊥
IsText (Proof line) = ⊥
IsText (ProofBytes bytes) = ⊥
IsText (Text text) = ⊤
IsText Satisfied = ⊥
IsText (Broken row) = ⊥
IsText (TooFewBits line) = ⊥

-- A proof's file begins as its form does: a line as an object does, bytes with their magic text.
abbrev pub BeginsAsForm : ProofForm → List ℕ → Type 0
BeginsAsForm Json file = take 1 file ≡ codes "{"
BeginsAsForm Bytes file = take (length magic) file ≡ magic

-- A proof begins as its form does, a text by the letter of `columns`, and the lines of a broken row by that of `row`. That bits are too
-- few is said where a floor is asked for, and nowhere else.
abbrev pub BeginsAsItsKind : Finding → Type 0
BeginsAsItsKind (Verdict v) = ⊤
BeginsAsItsKind (Proof line) = BeginsAsForm Json (string_bytes line)
BeginsAsItsKind (ProofBytes bytes) = BeginsAsForm Bytes bytes.items
BeginsAsItsKind (Text text) = take 1 (string_bytes text) ≡ codes "c"
BeginsAsItsKind Satisfied = ⊤
BeginsAsItsKind (Broken row) = take 1 (string_bytes row.lines) ≡ codes "r"
BeginsAsItsKind (TooFewBits line) = ⊥

-- A finding where want of memory is no refusal.
abbrev pub unjudged_finding : Finding → Finding
unjudged_finding (Verdict v) = Verdict (unjudged v)
unjudged_finding f = f
