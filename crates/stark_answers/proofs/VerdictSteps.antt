-- What a verifier's answer says of a proof.
use Rattle.std.proofs.Common.{◌≡◌, ◌⊎◌, ◌∙◌, ◌+◌, ◌<◌, arith, inl, inr, ap, refl, sym, subst, ℕ, zero, suc, true, false, List, Option, Some, None, Result, Ok, Err, IfOk, IfErr, IfSome, IsErr}
use Rattle.std.proofs.lemmas.Bool.{ltb-false}
use Rattle.stark_support.specs.Scheme.{zk_bits}
use Rattle.stark_transcript.specs.declared.error.VerificationError.{VerificationError}
use Rattle.stark_transcript.specs.declared.error.VerificationError.TheVariants as error
use Rattle.stark_air.specs.Declaration.{Trace, trace_width}
use Rattle.stark_protocol.specs.Acceptance.{Accepted}
use Rattle.stark_protocol.specs.FirstFault.{FirstFault}
use Rattle.stark_protocol.specs.Instance.{Instance, ProtocolOps}
use Rattle.stark_protocol.specs.Preprocessing.{has_columns}
use Rattle.stark_proof.specs.ProofView.{ProofView}
use Rattle.stark_protocol.specs.declared.preprocessed.PreprocessedVerifierKey.{PreprocessedVerifierKey}
use Rattle.stark_answers.specs.CheckedAir.{CheckedAir}
use Rattle.stark_verifier.specs.KeySizes.{HasSize, MisfitsBeside}
use Rattle.stark_verifier.specs.declared.key_size.KeySize.{KeySize}
use Rattle.stark_answers.specs.Verify.{Answers, IsAnswerWithKey, IsKey, IsSizedAsKey, IsVerdict, TellsProof, instance_of, size_of_key}
use Rattle.stark_answers.specs.Refusals.{verdict_of_answer}
use Rattle.stark_answers.specs.declared.verdict.Verdict.{Verdict}
use Rattle.stark_answers.specs.declared.verdict.Verdict.TheVariants as verdict
use Rattle.stark_answers.specs.declared.verdict.Refusal.TheVariants as refusal

-- An exact answer is Ok where the fact holds, or else a fault, unless memory was wanting.
exact_answers : {X : Type 0} (Holds : Type 0) (Fault : VerificationError X → Type 0) (answer : Result (Unit {0}) (VerificationError X))
    → IfOk answer (λ _. Holds) → IfErr answer (λ e. (e ≡ error.OutOfMemory) ⊎ Fault e) → (answer ≡ Err error.OutOfMemory) ⊎ Answers Holds Fault answer
exact_answers Holds Fault (Ok unit) holds fault = inr holds
exact_answers Holds Fault (Err e) holds (inl memory) = inl (ap (λ x. Err x) memory)
exact_answers Holds Fault (Err e) holds (inr fault) = inr fault

-- The verdict of an answer speaks of the proof.
verdict_tells : {X : Type 0} (Holds : Type 0) (Fault : VerificationError X → Type 0) (answer : Result (Unit {0}) (VerificationError X)) (v : Verdict) → v ≡ verdict_of_answer answer
    → Answers Holds Fault answer → TellsProof Holds Fault v
verdict_tells Holds Fault (Ok unit) v is holds = subst (λ w. TellsProof Holds Fault w) (sym is) holds
verdict_tells Holds Fault (Err e) v is fault = subst (λ w. TellsProof Holds Fault w) (sym is) (e, fault, refl)

-- what holds of what is there
pub of_some : {A : Type 0} (P : A → Type 0) (o : Option A) (a : A) → o ≡ Some a → IfSome o P → P a
of_some P (Some b) a is h = subst P (let same : b ≡ a = cc in same) h
of_some P None a is h = absurd (cc)

-- no columns have no width
none_wide : {F : Type 0} (declared : Option (Trace F)) → has_columns declared ≡ false → trace_width declared ≡ 0
none_wide None is = refl
none_wide (Some trace) is = omega (arith, ltb-false 0 trace.width is)

sized_some : {K : Type 0} (width wide bits : ℕ) (key : PreprocessedVerifierKey K) → width ≡ wide → 0 < wide → key.width ≡ wide → key.degree_bits ≡ bits → HasSize (size_of_key width bits) (Some key)
sized_some zero wide bits key is some same height = absurd (omega (arith, is, some))
sized_some (suc n) wide bits key is some same height = (same ∙ sym is, height)

module _ {S F E C K T P X Y : Type 0} (ops : ProtocolOps S F E C K T P X Y) (log_rows : ℕ) where
  -- A key of an AIR's width and height has the size that the verifier computes.
  has_size : (declared : Option (Trace F)) (key : Option (PreprocessedVerifierKey K)) → IsSizedAsKey ops log_rows declared key → HasSize (size_of_key (trace_width declared) (log_rows + zk_bits ops.opening.is_zk)) key
  has_size declared None none = subst (λ w. HasSize {K = K} (size_of_key w (log_rows + zk_bits ops.opening.is_zk)) None) (sym (none_wide declared none)) tt
  has_size declared (Some key) sized = sized_some (trace_width declared) sized.0.width (log_rows + zk_bits ops.opening.is_zk) key (ap trace_width sized.1) sized.2 sized.3 sized.4

module _ {S F E C K T P X Y : Type 0} (ops : ProtocolOps S F E C K T P X Y) (log_rows : ℕ) (scheme : S) (declared : Option (Trace F)) (instance : Option (PreprocessedVerifierKey K) → Instance S F C K) (proof : ProofView K E P F) where
  -- With a key of the AIR, an exact answer is the verifier's.
  pub answer_with_key : (key : Option (PreprocessedVerifierKey K)) (answer : Result (Unit {0}) (VerificationError X)) → IsKey ops log_rows scheme declared key
      → IfOk answer (λ _. Accepted ops (instance key) proof) → IfErr answer (λ e. (e ≡ error.OutOfMemory) ⊎ FirstFault ops (instance key) proof e) → IsAnswerWithKey ops log_rows scheme declared instance proof answer
  answer_with_key key answer is_key holds fault = elim (exact_answers (Accepted ops (instance key) proof) (FirstFault ops (instance key) proof) answer holds fault) [
    | inl memory ↦ inl memory
    | inr exact ↦ inr (inl (key, is_key, exact))
  ]

  -- A fault of the shape beside each key of a size is the answer, where the AIR's keys have it.
  pub answer_of_shape : (size : Option KeySize) (width : ℕ) → size ≡ size_of_key width (log_rows + zk_bits ops.opening.is_zk) → width ≡ trace_width declared
      → (answer : Result (Unit {0}) (VerificationError X)) → IfErr answer (λ e. (e ≡ error.OutOfMemory) ⊎ MisfitsBeside ops instance proof size e) → IsErr answer → IsAnswerWithKey ops log_rows scheme declared instance proof answer
  answer_of_shape size width is counted (Ok unit) fault failed = absurd (let clash : false ≡ true = failed in cc)
  answer_of_shape size width is counted (Err e) (inl memory) failed = inl (ap (λ x. Err x) memory)
  answer_of_shape size width is counted (Err e) (inr misfits) failed =
      inr (inr (e, (λ key sized. misfits key (subst (λ s. HasSize s key) (sym (is ∙ ap (λ w. size_of_key w (log_rows + zk_bits ops.opening.is_zk)) counted)) (has_size ops log_rows declared key sized))), refl))

module _ {S F E C K T P X Y : Type 0} (ops : ProtocolOps S F E C K T P X Y) (log_rows : ℕ) where
  -- The verdict of the answer of a configuration's parts.
  pub is_verdict : (air : CheckedAir F) (given_scheme scheme : S) (start first_state : C) (bits ood_bits first_bits alpha_bits : ℕ) (public_values : List F) (proof : ProofView K E P F) (answer : Result (Unit {0}) (VerificationError X)) (v : Verdict)
      → v ≡ verdict_of_answer answer → given_scheme ≡ scheme → start ≡ first_state → bits ≡ ood_bits
      → first_bits ≡ alpha_bits → IsAnswerWithKey ops log_rows given_scheme air.preprocessed_trace (λ key. instance_of air given_scheme start bits first_bits public_values key) proof answer
      → (v ≡ verdict.Refused refusal.OutOfMemory) ⊎ IsVerdict ops log_rows scheme first_state air proof public_values ood_bits alpha_bits v
  unfolding IsVerdict
  is_verdict air given_scheme scheme start first_state bits ood_bits first_bits alpha_bits public_values proof answer v is named begins asks asks_first obtained =
      subst (λ k. (v ≡ verdict.Refused refusal.OutOfMemory) ⊎ IsVerdict ops log_rows k first_state air proof public_values ood_bits alpha_bits v) named
      (subst (λ s. (v ≡ verdict.Refused refusal.OutOfMemory) ⊎ IsVerdict ops log_rows given_scheme s air proof public_values ood_bits alpha_bits v) begins
      (subst (λ n. (v ≡ verdict.Refused refusal.OutOfMemory) ⊎ IsVerdict ops log_rows given_scheme start air proof public_values n alpha_bits v) asks
      (subst (λ n. (v ≡ verdict.Refused refusal.OutOfMemory) ⊎ IsVerdict ops log_rows given_scheme start air proof public_values bits n v) asks_first
      (elim obtained [
        | inl memory ↦ inl (is ∙ ap verdict_of_answer memory)
        | inr (inl exact) ↦ inr (inl (exact.0, exact.1, verdict_tells _ _ answer v is exact.2))
        | inr (inr misshapen) ↦ inr (inr (misshapen.0, misshapen.1, is ∙ ap verdict_of_answer misshapen.2))
      ]))))
