-- What is accepted for a statement is sound.
use Rattle.std.proofs.Common.{◌≡◌, ◌⊎◌, ◌∙◌, inl, inr, subst, sym, ℕ, ◌≤◌, Option, None, Some}
use Rattle.stark_support.specs.Ring.{FieldLaws}
use Rattle.stark_proof.specs.ProofView.{ProofView}
use Rattle.stark_statement.specs.StatementView.{StatementView}
use Rattle.stark_transcript.specs.declared.error.InvalidProofShapeError.{InvalidProofShapeError}
use Rattle.stark_answers.specs.SoundRun.{Listed}
use Rattle.stark_answers.specs.declared.verdict.Refusal.TheVariants as refusal
use Rattle.stark_answers.specs.declared.verdict.Verdict.{Verdict}
use Rattle.stark_answers.specs.declared.verdict.Verdict.TheVariants as verdict
use Rattle.stark_answers.proofs.SoundSteps.{InTheClear}
use Rattle.stark_answers.proofs.Soundly.{accepted_of_taken, accepted_soundly}
use Rattle.stark_answers.specs.Verify.{IsVerdict}
use Rattle.stark_service.specs.StatementAir.{declared_of}
use Rattle.stark_service.specs.Heights.{UnlessOfOtherHeight, height_fault}
use Rattle.stark_service.specs.Service.{ServiceOps}
use Rattle.stark_service.specs.Statements.{IsSoundOfTakenOn, IsSoundOfTakenWithRows, IsSoundOn, IsSoundWithRows, IsVerdictOn, IsVerdictWithRows, ReadsDeclared}

pub bad_clash : verdict.Accepted ≡ verdict.BadInput → ⊥
bad_clash h = cc

pub memory_clash : (v : Verdict) → v ≡ verdict.OutOfMemory → v ≡ verdict.Accepted → ⊥
memory_clash v memory is = let clash : verdict.OutOfMemory ≡ verdict.Accepted = sym memory ∙ is in cc

-- What is accepted has the height that the statement fixes.
pub accepted_at_height : (fault : Option InvalidProofShapeError) (IsSaid : Verdict → Type 0) → UnlessOfOtherHeight fault IsSaid verdict.Accepted → IsSaid verdict.Accepted
accepted_at_height None IsSaid said = said
accepted_at_height (Some fault) IsSaid said = absurd (let clash : verdict.Accepted ≡ verdict.Refused (refusal.InvalidProofShape fault) = said in cc)

-- Whatever columns take the opened values.
module _ {S F E C K T P X Y : Type 0} (ops : ServiceOps S F E C K T P X Y) (laws : FieldLaws ops.protocol.opening.fields.ring ops.protocol.opening.fields.inverse) (scheme : S) (first_state : C) (s : StatementView F) where
  taken_with_rows : ReadsDeclared (declared_of s.air) → (log_rows : ℕ) (o : Option (ProofView K E P F)) → IsVerdictWithRows ops scheme first_state s log_rows o verdict.Accepted → IsSoundOfTakenWithRows ops scheme first_state s log_rows o
  unfolding IsVerdictWithRows IsSoundOfTakenWithRows
  taken_with_rows reads log_rows None said = bad_clash said
  taken_with_rows reads log_rows (Some p) said = accepted_of_taken ops.protocol log_rows laws (declared_of s.air) reads.within reads.counted scheme first_state p s.public_values s.ood_bits s.alpha_bits (accepted_at_height (height_fault s.log_height p.degree_bits) (λ u. IsVerdict ops.protocol log_rows scheme first_state (declared_of s.air) p s.public_values s.ood_bits s.alpha_bits u) said)

  taken_on : (read : Option (ProofView K E P F)) → IsVerdictOn ops scheme first_state s read verdict.Accepted → IsSoundOfTakenOn ops scheme first_state s read
  unfolding IsVerdictOn IsSoundOfTakenOn
  taken_on read (reads, inl said) = (said.0, said.1, taken_with_rows reads said.0 read said.2)
  taken_on read (reads, inr other) = absurd (bad_clash other.1)

  pub taken_soundly : (read : Option (ProofView K E P F)) (v : Verdict) → (v ≡ verdict.OutOfMemory) ⊎ IsVerdictOn ops scheme first_state s read v → v ≡ verdict.Accepted → IsSoundOfTakenOn ops scheme first_state s read
  taken_soundly read v (inl memory) is = absurd (memory_clash v memory is)
  taken_soundly read v (inr said) is = taken_on read (subst (λ w. IsVerdictOn ops scheme first_state s read w) is said)

-- The columns that a proof in the clear lists.
module _ {S F E C T P X Y : Type 0} (ops : ServiceOps S F E C (Listed F) T P X Y) (scheme : S) (first_state : C) (s : StatementView F)
    (clear : (log_rows : ℕ) → log_rows ≤ ops.protocol.opening.scheme.log_max_trace_height scheme → InTheClear ops.protocol log_rows) where
  listed_with_rows : ReadsDeclared (declared_of s.air) → (log_rows : ℕ) → log_rows ≤ ops.protocol.opening.scheme.log_max_trace_height scheme → (o : Option (ProofView (Listed F) E P F))
      → IsVerdictWithRows ops scheme first_state s log_rows o verdict.Accepted → IsSoundWithRows ops scheme first_state s log_rows o
  unfolding IsVerdictWithRows IsSoundWithRows
  listed_with_rows reads log_rows within None said = bad_clash said
  listed_with_rows reads log_rows within (Some p) said = accepted_soundly ops.protocol log_rows (clear log_rows within) (declared_of s.air) reads.within reads.counted scheme first_state p s.public_values s.ood_bits s.alpha_bits (accepted_at_height (height_fault s.log_height p.degree_bits) (λ u. IsVerdict ops.protocol log_rows scheme first_state (declared_of s.air) p s.public_values s.ood_bits s.alpha_bits u) said)

  listed_on : (read : Option (ProofView (Listed F) E P F)) → IsVerdictOn ops scheme first_state s read verdict.Accepted → IsSoundOn ops scheme first_state s read
  unfolding IsVerdictOn IsSoundOn
  listed_on read (reads, inl said) = (said.0, said.1, listed_with_rows reads said.0 said.1.within read said.2)
  listed_on read (reads, inr other) = absurd (bad_clash other.1)

  pub listed_soundly : (read : Option (ProofView (Listed F) E P F)) (v : Verdict) → (v ≡ verdict.OutOfMemory) ⊎ IsVerdictOn ops scheme first_state s read v → v ≡ verdict.Accepted → IsSoundOn ops scheme first_state s read
  listed_soundly read v (inl memory) is = absurd (memory_clash v memory is)
  listed_soundly read v (inr said) is = listed_on read (subst (λ w. IsVerdictOn ops scheme first_state s read w) is said)
