-- What the calls answer, and what they leave in the buffers that they are given.
use Rattle.std.specs.Prelude.{◌≡◌, ◌⊎◌, ℕ, ℤ, pos, Bool, true, false, Result, Ok, Err, if◌then◌else◌, nat_le, List, [], ◌++◌, Option, length, drop, codes, string_bytes}
use Rattle.stark_answers.specs.Finding.{finding_end, finding_bytes}
use Rattle.stark_service.specs.Floor.{OrFloorLacksMemory, floor_end, floor_line}
use Rattle.stark_service.specs.TraceChecks.{OrLacksMemory}
use Rattle.stark_service.specs.declared.floor.FloorVerdict.{FloorVerdict}
use Rattle.stark_answers.specs.Verdict.{end_of, line_of, status_of}
use Rattle.stark_answers.specs.declared.finding.Finding.{Finding}
use Rattle.stark_answers.specs.declared.finding.Finding.TheVariants as finding
use Rattle.stark_answers.specs.declared.verdict.Verdict.{Verdict}
use Rattle.stark_answers.specs.declared.verdict.Verdict.TheVariants as verdict
use Rattle.stark_keys.specs.Keys.{OrNotMade}
use Rattle.voskligan_c.specs.Message.{line_behind, written}
use Rattle.voskligan_c.specs.declared.proof.Handed.{Handed}
use Rattle.voskligan_c.specs.declared.proof.Handed.TheVariants.{NoProof, NoRoom, Placed}

-- There is such a verdict, unless memory was wanting; the status is that of a run that ends so, and the message is the verdict's line and what is said
-- after it.
abbrev pub IsVerdictWritten : (Verdict → Type 0) → ℤ → List ℕ → List ℕ → Type 0
IsVerdictWritten IsVerdict status old new =
    (v : Verdict) × ((reason : Option (List ℕ)) × (((v ≡ verdict.OutOfMemory) ⊎ IsVerdict v) × (status ≡ pos (status_of (end_of v))) × (new ≡ written (line_of v ++ line_behind reason) old)))

-- This is said of a proof where its worth has a floor, unless memory was wanting, and status and message are its own.
abbrev pub IsFloorWritten : (FloorVerdict → Type 0) → ℤ → List ℕ → List ℕ → Type 0
IsFloorWritten IsSaid status old new =
    (a : FloorVerdict) × ((reason : Option (List ℕ)) × (OrFloorLacksMemory IsSaid a × (status ≡ pos (status_of (floor_end a))) × (new ≡ written (floor_line a ++ line_behind reason) old)))

-- There is such a finding of a trace, and status and message are the finding's.
abbrev pub IsFindingWritten : (Finding → Type 0) → ℤ → List ℕ → List ℕ → Type 0
IsFindingWritten IsFound status old new =
    (f : Finding) × ((reason : Option (List ℕ)) × (OrLacksMemory IsFound f × (status ≡ pos (status_of (finding_end f))) × (new ≡ written (finding_bytes f ++ line_behind reason) old)))

-- the bytes of a proof that was found; none where none was
abbrev pub proof_of : Finding → List ℕ
proof_of (finding.Verdict v) = []
proof_of (finding.Proof line) = string_bytes line
proof_of (finding.ProofBytes bytes) = bytes.items
proof_of (finding.Text text) = []
proof_of finding.Satisfied = []
proof_of (finding.Broken row) = []
proof_of (finding.TooFewBits line) = []

-- Bytes at the head of a buffer that has room for them; else what was there.
abbrev pub placed : List ℕ → List ℕ → List ℕ
placed bytes old = if nat_le (length bytes) (length old) then bytes ++ drop (length bytes) old else old

-- what becomes of a proof of this number of bytes, by the room that there is for them
abbrev pub handed_where : ℕ → ℕ → Handed
handed_where count room = if nat_le count room then Placed else NoRoom

-- what becomes of what was found
abbrev pub handed_of : Finding → ℕ → Handed
handed_of (finding.Verdict v) room = NoProof
handed_of (finding.Proof line) room = handed_where (length (string_bytes line)) room
handed_of (finding.ProofBytes bytes) room = handed_where (length bytes.items) room
handed_of (finding.Text text) room = NoProof
handed_of finding.Satisfied room = NoProof
handed_of (finding.Broken row) room = NoProof
handed_of (finding.TooFewBits line) room = NoProof

-- the status of a call to prove
abbrev pub status_of_call : Handed → Finding → ℕ
status_of_call Placed f = 0
status_of_call NoRoom f = 3
status_of_call NoProof f = status_of (finding_end f)

-- what a message says of a proof, or else of what was found and why
abbrev pub lines_written : Handed → Finding → Option (List ℕ) → List ℕ
lines_written Placed f reason = codes "proved\n"
lines_written NoRoom f reason = codes "no room\n"
lines_written NoProof f reason = finding_bytes f ++ line_behind reason

-- A finding of a trace that was to be proved: its proof's length is answered, and the proof is placed where there is room for it.
abbrev pub IsProofWritten : (Finding → Type 0) → ℤ → ℕ → List ℕ → List ℕ → List ℕ → List ℕ → Type 0
IsProofWritten IsFound status needed old_proof new_proof old new =
    (f : Finding) × ((reason : Option (List ℕ)) × (let handed = handed_of f (length old_proof) in OrLacksMemory IsFound f × (status ≡ pos (status_of_call handed f))
    × (needed ≡ length (proof_of f)) × (new_proof ≡ placed (proof_of f) old_proof) × (new ≡ written (lines_written handed f reason) old)))

-- ---- keys

-- the bytes of a key that was made; none where none was
abbrev pub key_in : Result (List ℕ) Verdict → List ℕ
key_in (Ok bytes) = bytes
key_in (Err v) = []

-- the status and the words of a key, by whether there is room for it
abbrev pub key_status : Bool → ℕ
key_status true = 0
key_status false = 3

abbrev pub key_words : Bool → List ℕ
key_words true = codes "made\n"
key_words false = codes "no room\n"

-- of what was made, by the room that there is for it
abbrev pub status_of_key : Result (List ℕ) Verdict → ℕ → ℕ
status_of_key (Ok bytes) room = key_status (nat_le (length bytes) room)
status_of_key (Err v) room = status_of (end_of v)

abbrev pub key_lines : Result (List ℕ) Verdict → ℕ → Option (List ℕ) → List ℕ
key_lines (Ok bytes) room reason = key_words (nat_le (length bytes) room)
key_lines (Err v) room reason = line_of v ++ line_behind reason

-- A key is made, or a verdict says why not: its length is told, and it is placed where there is room for it.
abbrev pub IsKeyWritten : (Result (List ℕ) Verdict → Type 0) → ℤ → ℕ → List ℕ → List ℕ → List ℕ → List ℕ → Type 0
IsKeyWritten IsMade status needed old_key new_key old new =
    (made : Result (List ℕ) Verdict) × ((reason : Option (List ℕ)) × (OrNotMade IsMade made × (status ≡ pos (status_of_key made (length old_key)))
    × (needed ≡ length (key_in made)) × (new_key ≡ placed (key_in made) old_key) × (new ≡ written (key_lines made (length old_key) reason) old)))
