-- What a status says of a finding.
use Rattle.std.proofs.Common.{◌≡◌, ℕ, ℤ, pos, Bool, true, false, List, ◌++◌, length, take, drop, inl, inr, ap, refl, arith}
use Rattle.std.specs.Prelude.{nat_le, if◌then◌else◌}
use Rattle.std.proofs.Math.Seq.{take-append_seam}
use Rattle.stark_answers.specs.Finding.{IsProof, finding_bytes, finding_end}
use Rattle.stark_service.specs.Floor.{floor_end}
use Rattle.stark_service.specs.StatementFacts.{IsOfTrace}
use Rattle.stark_service.specs.TraceChecks.{OrLacksMemory}
use Rattle.stark_service.specs.declared.floor.FloorVerdict.{FloorVerdict}
use Rattle.stark_service.specs.declared.floor.FloorVerdict.TheVariants.{Judged, NotJudged}
use Rattle.stark_answers.specs.Verdict.{end_of, status_of}
use Rattle.stark_answers.specs.declared.finding.Finding.{Finding}
use Rattle.stark_answers.specs.declared.finding.Finding.TheVariants as finding
use Rattle.stark_answers.specs.declared.task.ProofForm.TheVariants.{Bytes, Json}
use Rattle.stark_answers.specs.declared.task.TraceTask.{TraceTask}
use Rattle.stark_answers.specs.declared.task.TraceTask.TheVariants as task
use Rattle.stark_answers.specs.declared.verdict.Verdict.{Verdict}
use Rattle.stark_answers.specs.declared.verdict.Verdict.TheVariants as verdict
use Rattle.voskligan_c.specs.Calls.{handed_of, key_status, placed, proof_of, status_of_call}
use Rattle.voskligan_c.specs.declared.proof.Handed.TheVariants.{NoRoom, Placed}

-- a status that is 0
pub pos_zero : (z : ℤ) (n : ℕ) → z ≡ pos n → z ≡ pos 0 → n ≡ 0
pos_zero z n e is = let same : pos n ≡ pos 0 = cc in cc

-- a verdict whose status is 0
pub accepted_from : (v : Verdict) → status_of (end_of v) ≡ 0 → v ≡ verdict.Accepted
accepted_from verdict.Accepted s = refl
accepted_from (verdict.Refused why) s = absurd (omega arith)
accepted_from verdict.BadInput s = absurd (omega arith)
accepted_from verdict.OutOfMemory s = absurd (omega arith)

-- one over a floor whose status is 0
pub accepted_over_floor : (a : FloorVerdict) → status_of (floor_end a) ≡ 0 → a ≡ Judged verdict.Accepted
accepted_over_floor (Judged v) s = ap (λ w. Judged w) (accepted_from v s)
accepted_over_floor (NotJudged bits) s = absurd (omega arith)

-- to prove is not to check
not_check : task.Prove Json ≡ task.Check → ⊥
not_check e = cc

-- memory that was wanting is no success
no_memory : (f : Finding) → f ≡ finding.Verdict verdict.OutOfMemory → status_of (finding_end f) ≡ 0 → ⊥
no_memory f e s = let two : status_of (finding_end f) ≡ 2 = rw e refl in omega arith

-- a verdict that ends so accepts
no_verdict : (asked : TraceTask) (v : Verdict) → IsOfTrace asked (finding.Verdict v) → status_of (end_of v) ≡ 0 → ⊥
no_verdict asked v kind s = kind.accepts_none (ap (λ w. finding.Verdict w) (accepted_from v s))

-- a check that ends so has found that the trace satisfies its AIR
pub satisfied_from : (IsFound : Finding → Type 0) (f : Finding) → OrLacksMemory IsFound f → IsOfTrace task.Check f → status_of (finding_end f) ≡ 0 → IsFound finding.Satisfied
satisfied_from IsFound f (inl e) kind s = absurd (no_memory f e s)
satisfied_from IsFound (finding.Verdict v) (inr obtained) kind s = absurd (no_verdict task.Check v kind s)
satisfied_from IsFound (finding.Proof line) (inr obtained) kind s = absurd (kind.proves_as_asked Json refl)
satisfied_from IsFound (finding.ProofBytes bytes) (inr obtained) kind s = absurd (kind.proves_as_asked Bytes refl)
satisfied_from IsFound (finding.Text text) (inr obtained) kind s = absurd (kind.shows_none tt)
satisfied_from IsFound finding.Satisfied (inr obtained) kind s = obtained
satisfied_from IsFound (finding.Broken row) (inr obtained) kind s = absurd (omega arith)
satisfied_from IsFound (finding.TooFewBits line) (inr obtained) kind s = absurd kind.begins

-- a prover that ends so has placed a proof
module _ (IsLine : List ℕ → Type 0) where
  line_in : (f : Finding) (bytes old : List ℕ) (b : Bool) → IsLine bytes → status_of_call (if b then Placed else NoRoom) f ≡ 0
      → IsLine (take (length bytes) (if b then bytes ++ drop (length bytes) old else old))
  line_in f bytes old true is s = rw (take-append_seam bytes (drop (length bytes) old)) is
  line_in f bytes old false is s = absurd (omega arith)

  pub line_placed : (f : Finding) (old : List ℕ) → IsOfTrace (task.Prove Json) f → (IsProof Json f → IsLine (finding_bytes f)) → status_of_call (handed_of f (length old)) f ≡ 0 → IsLine (take (length (proof_of f)) (placed (proof_of f) old))
  line_placed (finding.Verdict v) old kind line s = absurd (no_verdict (task.Prove Json) v kind s)
  line_placed (finding.Proof text) old kind line s = line_in (finding.Proof text) (finding_bytes (finding.Proof text)) old (nat_le (length (finding_bytes (finding.Proof text))) (length old)) (line refl) s
  line_placed (finding.ProofBytes bytes) old kind line s = absurd (let clash : Bytes ≡ Json = kind.proves_as_asked Bytes refl in cc)
  line_placed (finding.Text text) old kind line s = absurd (kind.shows_none tt)
  line_placed finding.Satisfied old kind line s = absurd (not_check (kind.satisfied_checks refl))
  line_placed (finding.Broken row) old kind line s = absurd (omega arith)
  line_placed (finding.TooFewBits text) old kind line s = absurd kind.begins

-- a key whose status is 0 is placed, and under another status the buffer stays
module _ (IsFile : List ℕ → Type 0) where
  file_in : (bytes old : List ℕ) (b : Bool) → IsFile bytes → key_status b ≡ 0 → IsFile (take (length bytes) (if b then bytes ++ drop (length bytes) old else old))
  file_in bytes old true is s = rw (take-append_seam bytes (drop (length bytes) old)) is
  file_in bytes old false is s = absurd (omega arith)

  pub key_placed : (bytes old : List ℕ) → IsFile bytes → key_status (nat_le (length bytes) (length old)) ≡ 0 → IsFile (take (length bytes) (placed bytes old))
  key_placed bytes old is s = file_in bytes old (nat_le (length bytes) (length old)) is s

  -- so this is said of as many bytes of the buffer as the key has
  pub file_handed : (bytes old new : List ℕ) (count : ℕ) → count ≡ length bytes → new ≡ placed bytes old → IsFile bytes → key_status (nat_le (length bytes) (length old)) ≡ 0 → IsFile (take count new)
  file_handed bytes old new count counted kept is s = rw (counted, kept) (key_placed bytes old is s)

kept_by : (bytes old : List ℕ) (b : Bool) (z : ℤ) → z ≡ pos (key_status b) → (z ≡ pos 0 → ⊥) → (if b then bytes ++ drop (length bytes) old else old) ≡ old
kept_by bytes old true z e other = absurd (other e)
kept_by bytes old false z e other = refl

pub key_kept : (bytes old : List ℕ) (z : ℤ) → z ≡ pos (key_status (nat_le (length bytes) (length old))) → (z ≡ pos 0 → ⊥) → placed bytes old ≡ old
key_kept bytes old z e other = kept_by bytes old (nat_le (length bytes) (length old)) z e other
