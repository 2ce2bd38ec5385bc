-- With the key that is made of a statement, the verdict is one of the verifier that sets it up.
use Rattle.std.proofs.Common.{◌≡◌, ◌⊎◌, inl, inr, subst, ℕ, List, Option, None, Some, Ok}
use Rattle.stark_transcript.specs.declared.error.InvalidProofShapeError.{InvalidProofShapeError}
use Rattle.stark_proof.specs.ProofView.{ProofView}
use Rattle.stark_key_bytes.specs.declared.key.StatementKey.{StatementKey}
use Rattle.stark_protocol.specs.Acceptance.{Accepted}
use Rattle.stark_protocol.specs.FirstFault.{FirstFault}
use Rattle.stark_protocol.specs.declared.preprocessed.PreprocessedVerifierKey.{PreprocessedVerifierKey}
use Rattle.stark_statement.specs.StatementView.{StatementView}
use Rattle.stark_answers.specs.Verify.{IsVerdict, TellsProof}
use Rattle.stark_answers.specs.declared.verdict.Verdict.{Verdict}
use Rattle.stark_answers.specs.declared.verdict.Verdict.TheVariants as verdict
use Rattle.stark_service.specs.Heights.{UnlessOfOtherHeight, height_fault}
use Rattle.stark_service.specs.Service.{ServiceOps}
use Rattle.stark_service.specs.StatementAir.{declared_of}
use Rattle.stark_service.specs.Statements.{IsVerdictOn, IsVerdictWithRows}
use Rattle.stark_keys.specs.Keys.{IsKeyFile, IsOfStatement, IsOwnKey, IsVerdictByKey, IsVerdictByRead, IsVerdictWithKeyOn, judged_with}

-- What follows of what is said at the fixed height is said at it.
unless_of_other : (fault : Option InvalidProofShapeError) (A B : Verdict → Type 0) (v : Verdict) → (A v → B v) → UnlessOfOtherHeight fault A v → UnlessOfOtherHeight fault B v
unless_of_other None A B v turn said = turn said
unless_of_other (Some fault) A B v turn said = said

module _ {S F E C K T P X Y : Type 0} (ops : ServiceOps S F E C K T P X Y) (scheme : S) (first_state : C) (s : StatementView F) where
  module _ (log_rows : ℕ) (key : Option (PreprocessedVerifierKey K)) (own : IsOwnKey ops scheme s log_rows key) where
    verdict_by_own : (p : ProofView K E P F) (v : Verdict)
        → TellsProof (Accepted ops.protocol (judged_with ops scheme first_state s key) p) (FirstFault ops.protocol (judged_with ops scheme first_state s key) p) v
        → IsVerdict ops.protocol log_rows scheme first_state (declared_of s.air) p s.public_values s.ood_bits s.alpha_bits v
    unfolding IsVerdict
    verdict_by_own p v says = inl (key, own, says)

    owned_with_rows : (read : Option (ProofView K E P F)) (v : Verdict) → IsVerdictByKey ops scheme first_state s key read v → IsVerdictWithRows ops scheme first_state s log_rows read v
    unfolding IsVerdictByKey IsVerdictWithRows
    owned_with_rows None v said = said
    owned_with_rows (Some p) v said =
        unless_of_other (height_fault s.log_height p.degree_bits) (λ u. TellsProof (Accepted ops.protocol (judged_with ops scheme first_state s key) p) (FirstFault ops.protocol (judged_with ops scheme first_state s key) p) u)
        (λ u. IsVerdict ops.protocol log_rows scheme first_state (declared_of s.air) p s.public_values s.ood_bits s.alpha_bits u) v (verdict_by_own p v) said

  owned_by_read : (log_rows : ℕ) (given : StatementKey K) → IsOfStatement ops scheme s given → IsOwnKey ops scheme s log_rows given.key → (read : Option (ProofView K E P F)) (v : Verdict)
      → IsVerdictByRead ops scheme first_state s (Ok given) read v → IsVerdictWithRows ops scheme first_state s log_rows read v
  unfolding IsVerdictByRead
  owned_by_read log_rows given whose own read v (inl said) = owned_with_rows log_rows given.key own read v said.1
  owned_by_read log_rows given whose own read v (inr other) = absurd (other.0 whose)

  module _ (bytes : List ℕ) (read : Option (ProofView K E P F)) (v : Verdict) where
    owned_on : IsKeyFile ops scheme s bytes → IsVerdictWithKeyOn ops scheme first_state s bytes read v → IsVerdictOn ops scheme first_state s read v
    unfolding IsVerdictOn IsVerdictWithKeyOn
    owned_on file said = (
      said.0,
      inl (
        file.log_rows,
        file.rows,
        owned_by_read file.log_rows file.given file.of_statement file.is_key read v (subst (λ r. IsVerdictByRead ops scheme first_state s r read v) file.spelled said.1),
      ),
    )

    pub owned_of_file : IsKeyFile ops scheme s bytes → (v ≡ verdict.OutOfMemory) ⊎ IsVerdictWithKeyOn ops scheme first_state s bytes read v → (v ≡ verdict.OutOfMemory) ⊎ IsVerdictOn ops scheme first_state s read v
    owned_of_file file (inl memory) = inl memory
    owned_of_file file (inr said) = inr (owned_on file said)
