-- What a prover's answer says of a trace.
use Rattle.std.proofs.Common.{◌≡◌, ◌⊎◌, ◌∙◌, inl, inr, ap, subst, ℕ, List, Option, option_map, Result, Ok, Err}
use Rattle.serde_json.specs.Data.{Data}
use Rattle.stark_air.specs.Declaration.{Trace}
use Rattle.stark_transcript.specs.declared.error.ProvingError.{ProvingError}
use Rattle.stark_proof.specs.ProofView.{ProofView, proof_view}
use Rattle.stark_proof.specs.declared.values.Proof.{Proof}
use Rattle.stark_proof_bytes.specs.ProofBytes.{ProofCodecs}
use Rattle.stark_protocol.specs.Instance.{Instance, ProtocolOps}
use Rattle.stark_protocol.specs.declared.preprocessed.PreprocessedProverData.{PreprocessedProverData}
use Rattle.stark_prover.specs.ProofOfTrace.{key_of}
use Rattle.stark_answers.specs.CheckedAir.{CheckedAir}
use Rattle.stark_answers.specs.Refusals.{prover_refusal_of}
use Rattle.stark_answers.specs.declared.finding.Finding.{Finding}
use Rattle.stark_answers.specs.declared.finding.Finding.TheVariants as finding
use Rattle.stark_answers.specs.declared.task.ProofForm.{ProofForm}
use Rattle.stark_answers.specs.declared.task.ProofForm.TheVariants.{Bytes, Json}
use Rattle.stark_answers.specs.declared.verdict.Verdict.TheVariants as verdict
use Rattle.stark_answers.specs.Finding.{IsProof, finding_bytes}
use Rattle.stark_answers.specs.Prove.{AnswersWithData, HasNoFloat, IsAnswer, IsCause, IsMadeOf, IsProved, IsWritten, OrNoMemory, TellsAnswer, TellsProver, file_of, no_memory}
use Rattle.stark_answers.specs.Verify.{instance_of}

-- A proof is written exactly, where no proof's JSON has a float.
pub written_exactly : {K E P F : Type 0} (writing : ProofView K E P F → Data) (codecs : ProofCodecs K E P F) → HasNoFloat writing → (form : ProofForm) (proof : Proof K E P F) (f : Finding) → IsWritten writing codecs form (proof_view proof) f
    → IsProof form f × (finding_bytes f ≡ file_of writing codecs form (proof_view proof))
written_exactly writing codecs no_float Json proof f written = (written.0, written.1 (no_float (proof_view proof)))
written_exactly writing codecs no_float Bytes proof f written = (written.0, written.1 tt)

-- ---- an answer and what is found

-- By what a proof is found as, in a form: it has the bytes of its file.
module _ {S F E C K T P X Y : Type 0} (ops : ProtocolOps S F E C K T P X Y) (coordinates : E → List F) (form : ProofForm) (file : ProofView K E P F → List ℕ) (IsFound : Proof K E P F → Finding → Type 0)
    (exact : (proof : Proof K E P F) (f : Finding) → IsFound proof f → IsProof form f × (finding_bytes f ≡ file (proof_view proof))) where
  module _ (i : Instance S F C K) (preprocessed_data : Option (PreprocessedProverData K T)) (height : ℕ) (trace : Trace F) where
    tells_prover : (answer : Result (Proof K E P F) (ProvingError Y)) (f : Finding) → TellsAnswer IsFound answer f → IsAnswer ops coordinates i preprocessed_data height trace answer
        → TellsProver form file (IsMadeOf ops coordinates i preprocessed_data height trace) (IsCause ops coordinates i preprocessed_data height trace) f
    tells_prover (Ok proof) f tells holds = let obtained = exact proof f tells in inl (obtained.0, proof_view proof, holds, obtained.1)
    tells_prover (Err error) f tells holds = inr (error, holds, tells)

  memory_stated : (answer : Result (Proof K E P F) (ProvingError Y)) (f : Finding) → TellsAnswer IsFound answer f → answer ≡ Err ProvingError.OutOfMemory → f ≡ no_memory
  memory_stated (Ok proof) f tells memory = absurd (cc)
  memory_stated (Err error) f tells memory = tells ∙ ap (λ e. finding.Verdict (verdict.Refused (prover_refusal_of e))) (let same : error ≡ ProvingError.OutOfMemory = cc in same)

  -- With a configuration's parts, what is said of an answer is said of the trace.
  pub is_proved : (log_rows : ℕ) (air : CheckedAir F) (given_scheme scheme : S) (start first_state : C) (bits ood_bits first_bits alpha_bits : ℕ) (public_values : List F) (height : ℕ) (trace : Trace F)
      (answer : Result (Proof K E P F) (ProvingError Y)) (f : Finding) → given_scheme ≡ scheme → start ≡ first_state → bits ≡ ood_bits → first_bits ≡ alpha_bits
      → OrNoMemory (TellsAnswer IsFound answer) f
      → AnswersWithData ops coordinates log_rows given_scheme air.preprocessed_trace (λ preprocessed_data. instance_of air given_scheme start bits first_bits public_values (option_map key_of preprocessed_data)) height trace answer
      → (f ≡ no_memory) ⊎ IsProved ops coordinates form file log_rows scheme first_state air height trace public_values ood_bits alpha_bits f
  unfolding IsProved AnswersWithData
  is_proved log_rows air given_scheme scheme start first_state bits ood_bits first_bits alpha_bits public_values height trace answer f named begins asks asks_first tells answers =
      subst (λ k. (f ≡ no_memory) ⊎ IsProved ops coordinates form file log_rows k first_state air height trace public_values ood_bits alpha_bits f) named
      (subst (λ s. (f ≡ no_memory) ⊎ IsProved ops coordinates form file log_rows given_scheme s air height trace public_values ood_bits alpha_bits f) begins
      (subst (λ n. (f ≡ no_memory) ⊎ IsProved ops coordinates form file log_rows given_scheme start air height trace public_values n alpha_bits f) asks
      (subst (λ n. (f ≡ no_memory) ⊎ IsProved ops coordinates form file log_rows given_scheme start air height trace public_values bits n f) asks_first
      (elim tells [
        | inl memory ↦ inl memory
        | inr stated ↦ elim answers [
          | inl memory ↦ inl (memory_stated answer f stated memory)
          | inr made ↦ inr (made.0, made.1, tells_prover _ made.0 height trace answer f stated made.2)
        ]
      ]))))
