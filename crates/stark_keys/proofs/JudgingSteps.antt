-- From what was read of a key and of a proof to what is said of both.
use Rattle.std.proofs.Common.{◌≡◌, ◌⊎◌, ◌∙◌, inl, inr, ap, refl, subst, sym, ℕ, List, Option, None, Some, IfSome, Result, Ok, Err, IfOk, IfErr}
use Rattle.stark_transcript.specs.declared.error.InvalidProofShapeError.{InvalidProofShapeError}
use Rattle.stark_transcript.specs.declared.error.VerificationError.{VerificationError}
use Rattle.stark_transcript.specs.declared.error.VerificationError.TheVariants as error
use Rattle.stark_proof.specs.ProofView.{ProofView}
use Rattle.stark_proof_bytes.specs.declared.fault.BytesFault.{BytesFault}
use Rattle.stark_key_bytes.specs.KeyBytes.{key_reading}
use Rattle.stark_key_bytes.specs.declared.key.StatementKey.{StatementKey}
use Rattle.stark_protocol.specs.Acceptance.{Accepted}
use Rattle.stark_protocol.specs.FirstFault.{FirstFault}
use Rattle.stark_protocol.specs.declared.preprocessed.PreprocessedVerifierKey.{PreprocessedVerifierKey}
use Rattle.stark_statement.specs.StatementView.{StatementView}
use Rattle.stark_answers.specs.CheckedAir.{CheckedAir}
use Rattle.stark_answers.specs.Refusals.{refusal_of, verdict_of_answer}
use Rattle.stark_answers.specs.Verdict.{unjudged}
use Rattle.stark_answers.specs.Verify.{TellsProof, instance_of}
use Rattle.stark_answers.specs.declared.verdict.Refusal.TheVariants as refusal
use Rattle.stark_answers.specs.declared.verdict.Verdict.{Verdict}
use Rattle.stark_answers.specs.declared.verdict.Verdict.TheVariants as verdict
use Rattle.stark_service.specs.Heights.{UnlessOfOtherHeight, height_fault}
use Rattle.stark_service.specs.Service.{ServiceOps}
use Rattle.stark_service.specs.StatementAir.{declared_of}
use Rattle.stark_service.specs.Statements.{ReadsDeclared, verdict_without}
use Rattle.stark_service.proofs.StatementSteps.{said_unjudged}
use Rattle.stark_keys.specs.Keys.{IsOfStatement, IsVerdictByKey, IsVerdictByRead, IsVerdictWithKeyOn}

-- The verdict of an exact answer is one on the proof, unless memory was wanting.
answer_tells : {X : Type 0} (Holds : Type 0) (Fault : VerificationError X → Type 0) (answer : Result (Unit {0}) (VerificationError X)) (v : Verdict) → v ≡ verdict_of_answer answer
    → IfOk answer (λ _. Holds) → IfErr answer (λ e. (e ≡ error.OutOfMemory) ⊎ Fault e) → (v ≡ verdict.Refused refusal.OutOfMemory) ⊎ TellsProof Holds Fault v
answer_tells Holds Fault (Ok unit) v is holds fault = inr (subst (λ w. TellsProof Holds Fault w) (sym is) holds)
answer_tells Holds Fault (Err e) v is holds (inl memory) = inl (is ∙ ap (λ x. verdict.Refused (refusal_of x)) memory)
answer_tells Holds Fault (Err e) v is holds (inr fault) = inr (subst (λ w. TellsProof Holds Fault w) (sym is) (e, fault, refl))

module _ {S F E C K T P X Y : Type 0} (ops : ServiceOps S F E C K T P X Y) (scheme : S) (first_state : C) (s : StatementView F) where
  -- ---- with a key

  abbrev verdict_with : Option (PreprocessedVerifierKey K) → CheckedAir F → List F → ℕ → ℕ → ProofView K E P F → Verdict → Type 0
  verdict_with key air public_values ood_bits alpha_bits p u =
      TellsProof (Accepted ops.protocol (instance_of air scheme first_state ood_bits alpha_bits public_values key) p)
      (FirstFault ops.protocol (instance_of air scheme first_state ood_bits alpha_bits public_values key) p) u

  module _ (key : Option (PreprocessedVerifierKey K)) (read : Option (ProofView K E P F)) where
    abbrev says_of : CheckedAir F → List F → ℕ → ℕ → ProofView K E P F → Verdict → Type 0
    says_of air public_values ood_bits alpha_bits p u = verdict_with key air public_values ood_bits alpha_bits p u

    -- What is said of the proof that was read is said of the file.
    pub by_key_of_read : (given : Option (PreprocessedVerifierKey K)) → given ≡ key → (air : CheckedAir F) (p : ProofView K E P F) (public_values : List F) (ood_bits alpha_bits : ℕ) (answer : Result (Unit {0}) (VerificationError X)) (v w : Verdict)
        → height_fault s.log_height p.degree_bits ≡ None → read ≡ Some p → air ≡ declared_of s.air → public_values ≡ s.public_values → ood_bits ≡ s.ood_bits → alpha_bits ≡ s.alpha_bits
        → v ≡ verdict_of_answer answer → w ≡ unjudged v
        → IfOk answer (λ _. Accepted ops.protocol (instance_of air scheme first_state ood_bits alpha_bits public_values given) p)
        → IfErr answer (λ e. (e ≡ error.OutOfMemory) ⊎ FirstFault ops.protocol (instance_of air scheme first_state ood_bits alpha_bits public_values given) p e)
        → (w ≡ verdict.OutOfMemory) ⊎ IsVerdictByKey ops scheme first_state s key read w
    unfolding IsVerdictByKey
    by_key_of_read given same air p public_values ood_bits alpha_bits answer v w fixed is declares lists asks asks_first says unless holds fault =
        subst (λ r. (w ≡ verdict.OutOfMemory) ⊎ IsVerdictByKey ops scheme first_state s key r w) (sym is)
        (subst (λ found. (w ≡ verdict.OutOfMemory) ⊎ UnlessOfOtherHeight found (λ u. says_of (declared_of s.air) s.public_values s.ood_bits s.alpha_bits p u) w) (sym fixed)
        (subst (λ a. (w ≡ verdict.OutOfMemory) ⊎ says_of a s.public_values s.ood_bits s.alpha_bits p w) declares
        (subst (λ ps. (w ≡ verdict.OutOfMemory) ⊎ says_of air ps s.ood_bits s.alpha_bits p w) lists
        (subst (λ n. (w ≡ verdict.OutOfMemory) ⊎ says_of air public_values n s.alpha_bits p w) asks
        (subst (λ n. (w ≡ verdict.OutOfMemory) ⊎ says_of air public_values ood_bits n p w) asks_first
        (said_unjudged (λ u. says_of air public_values ood_bits alpha_bits p u) v w unless
        (subst (λ k. (v ≡ verdict.Refused refusal.OutOfMemory) ⊎ verdict_with k air public_values ood_bits alpha_bits p v) same (answer_tells _ _ answer v says holds fault))))))))

    -- A proof of another height than the statement fixes is refused for it.
    pub by_key_of_other_height : (p : ProofView K E P F) (fault : InvalidProofShapeError) (w : Verdict) → read ≡ Some p → height_fault s.log_height p.degree_bits ≡ Some fault
        → w ≡ verdict.Refused (refusal.InvalidProofShape fault) → (w ≡ verdict.OutOfMemory) ⊎ IsVerdictByKey ops scheme first_state s key read w
    unfolding IsVerdictByKey
    by_key_of_other_height p fault w is other refuses =
        inr (subst (λ r. IsVerdictByKey ops scheme first_state s key r w) (sym is)
        (subst (λ found. UnlessOfOtherHeight found (λ u. says_of (declared_of s.air) s.public_values s.ood_bits s.alpha_bits p u) w) (sym other) refuses))

    -- A file that spells none is bad input.
    pub by_key_without_proof : (w : Verdict) → (w ≡ verdict.OutOfMemory) ⊎ ((read ≡ None) × (w ≡ verdict.BadInput)) → (w ≡ verdict.OutOfMemory) ⊎ IsVerdictByKey ops scheme first_state s key read w
    unfolding IsVerdictByKey
    by_key_without_proof w (inl memory) = inl memory
    by_key_without_proof w (inr bad) = inr (subst (λ r. IsVerdictByKey ops scheme first_state s key r w) (sym bad.0) bad.1)

  -- ---- with the bytes of a key

  module _ (reads : ReadsDeclared (declared_of s.air)) (bytes : List ℕ) (read : Option (ProofView K E P F)) where
    pub with_key_read : (given : StatementKey K) (v : Verdict) → key_reading ops.codecs.commitment bytes ≡ Ok given → IsOfStatement ops scheme s given
        → (v ≡ verdict.OutOfMemory) ⊎ IsVerdictByKey ops scheme first_state s given.key read v → (v ≡ verdict.OutOfMemory) ⊎ IsVerdictWithKeyOn ops scheme first_state s bytes read v
    unfolding IsVerdictByRead IsVerdictWithKeyOn
    with_key_read given v is whose (inl memory) = inl memory
    with_key_read given v is whose (inr said) = inr (reads, subst (λ r. IsVerdictByRead ops scheme first_state s r read v) (sym is) (inl (whose, said)))

    pub with_key_of_another : (given : StatementKey K) (v : Verdict) → key_reading ops.codecs.commitment bytes ≡ Ok given → (IsOfStatement ops scheme s given → ⊥) → v ≡ verdict.BadInput
        → (v ≡ verdict.OutOfMemory) ⊎ IsVerdictWithKeyOn ops scheme first_state s bytes read v
    unfolding IsVerdictByRead IsVerdictWithKeyOn
    with_key_of_another given v is other bad = inr (reads, subst (λ r. IsVerdictByRead ops scheme first_state s r read v) (sym is) (inr (other, bad)))

    pub with_unread_key : (fault : Option BytesFault) (v : Verdict) → IfSome fault (λ f. key_reading ops.codecs.commitment bytes ≡ Err f) → v ≡ verdict_without fault
        → (v ≡ verdict.OutOfMemory) ⊎ IsVerdictWithKeyOn ops scheme first_state s bytes read v
    unfolding IsVerdictByRead IsVerdictWithKeyOn
    with_unread_key None v unread is = inl is
    with_unread_key (Some f) v unread is = inr (reads, subst (λ r. IsVerdictByRead ops scheme first_state s r read v) (sym unread) is)
