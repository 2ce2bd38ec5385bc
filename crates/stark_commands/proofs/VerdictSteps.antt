-- What a verifier's answer says of a proof.
use Rattle.std.proofs.Common.{◌≡◌, ◌⊎◌, inl, inr, sym, subst, ℕ, List, Option, Some}
use Rattle.stark_transcript.specs.declared.error.VerificationError.TheVariants as error
use Rattle.stark_protocol.specs.Instance.{ProtocolOps}
use Rattle.stark_proof.specs.ProofView.{ProofView}
use Rattle.stark_answers.specs.CheckedAir.{CheckedAir}
use Rattle.stark_commands.specs.Airs.{sample}
use Rattle.stark_commands.specs.declared.sample.SampleAir.{SampleAir}
use Rattle.stark_commands.specs.Input.{Base, Extension}
use Rattle.stark_commands.specs.ProofInput.{NamedChallenger, ProofNumbers, hashing, scripted}
use Rattle.stark_answers.specs.Verify.{IsVerdict}
use Rattle.stark_commands.specs.Verify.{IsVerdictBy, IsVerified}
use Rattle.stark_answers.specs.declared.verdict.Verdict.{Verdict}
use Rattle.stark_answers.specs.declared.verdict.Verdict.TheVariants as verdict
use Rattle.stark_answers.specs.declared.verdict.Refusal.TheVariants as refusal

module _ {S H R K T P X Y : Type 0} (hashing_ops : ProtocolOps S Base Extension H K T P X Y) (script_ops : ProtocolOps S Base Extension R K T P X Y) (log_rows : ℕ) (scheme : S) (hashing_start : H) (script_start : List Base → R) where
  pub verdict_by_hashing : (air : CheckedAir Base) (m : ProofNumbers K P) (named : NamedChallenger) (start : H) (v : Verdict) → named ≡ hashing → start ≡ hashing_start
      → (v ≡ verdict.Refused refusal.OutOfMemory) ⊎ IsVerdict hashing_ops log_rows scheme start air m.proof m.public_values m.ood_bits m.alpha_bits v → (v ≡ verdict.Refused refusal.OutOfMemory) ⊎ IsVerdictBy hashing_ops script_ops log_rows scheme hashing_start script_start air m named v
  unfolding IsVerdictBy
  verdict_by_hashing air m named start v is begins obtained =
      subst (λ n. (v ≡ verdict.Refused refusal.OutOfMemory) ⊎ IsVerdictBy hashing_ops script_ops log_rows scheme hashing_start script_start air m n v) (sym is) (subst (λ s. (v ≡ verdict.Refused refusal.OutOfMemory) ⊎ IsVerdict hashing_ops log_rows scheme s air m.proof m.public_values m.ood_bits m.alpha_bits v) begins obtained)

  pub verdict_by_script : (air : CheckedAir Base) (m : ProofNumbers K P) (named : NamedChallenger) (numbers : List Base) (start : R) (v : Verdict) → named ≡ scripted numbers → start ≡ script_start numbers
      → (v ≡ verdict.Refused refusal.OutOfMemory) ⊎ IsVerdict script_ops log_rows scheme start air m.proof m.public_values m.ood_bits m.alpha_bits v → (v ≡ verdict.Refused refusal.OutOfMemory) ⊎ IsVerdictBy hashing_ops script_ops log_rows scheme hashing_start script_start air m named v
  unfolding IsVerdictBy
  verdict_by_script air m named numbers start v is begins obtained =
      subst (λ n. (v ≡ verdict.Refused refusal.OutOfMemory) ⊎ IsVerdictBy hashing_ops script_ops log_rows scheme hashing_start script_start air m n v) (sym is) (subst (λ s. (v ≡ verdict.Refused refusal.OutOfMemory) ⊎ IsVerdict script_ops log_rows scheme s air m.proof m.public_values m.ood_bits m.alpha_bits v) begins obtained)

  pub verified_read : (air : CheckedAir Base) (read : Option (ProofNumbers K P)) (proof : ProofView K Extension P Base) (listed public_values : List Base) (named : NamedChallenger) (ood_bits alpha_bits : ℕ) (v : Verdict)
      → read ≡ Some (record { proof = proof; public_values = public_values; challenger = named; ood_bits = ood_bits; alpha_bits = alpha_bits }) → listed ≡ public_values
      → (v ≡ verdict.Refused refusal.OutOfMemory) ⊎ IsVerdictBy hashing_ops script_ops log_rows scheme hashing_start script_start air (record { proof = proof; public_values = listed; challenger = named; ood_bits = ood_bits; alpha_bits = alpha_bits }) named v
      → (v ≡ verdict.Refused refusal.OutOfMemory) ⊎ IsVerified hashing_ops script_ops log_rows scheme hashing_start script_start air read v
  unfolding IsVerified
  verified_read air read proof listed public_values named ood_bits alpha_bits v is same obtained =
      subst (λ r. (v ≡ verdict.Refused refusal.OutOfMemory) ⊎ IsVerified hashing_ops script_ops log_rows scheme hashing_start script_start air r v) (sym is)
      (subst (λ ps. (v ≡ verdict.Refused refusal.OutOfMemory) ⊎ IsVerdictBy hashing_ops script_ops log_rows scheme hashing_start script_start air (record { proof = proof; public_values = ps; challenger = named; ood_bits = ood_bits; alpha_bits = alpha_bits }) named v) same obtained)

  -- What is found for an AIR that declares what a sample AIR does is found for the sample.
  pub verified_for_sample : (air : CheckedAir Base) (name : SampleAir) (read : Option (ProofNumbers K P)) (v : Verdict) → air ≡ sample name
      → (v ≡ verdict.Refused refusal.OutOfMemory) ⊎ IsVerified hashing_ops script_ops log_rows scheme hashing_start script_start air read v
      → IsVerified hashing_ops script_ops log_rows scheme hashing_start script_start (sample name) read v ⊎ (v ≡ verdict.Refused refusal.OutOfMemory)
  verified_for_sample air name read v is (inl memory) = inr memory
  verified_for_sample air name read v is (inr obtained) = inl (subst (λ a. IsVerified hashing_ops script_ops log_rows scheme hashing_start script_start a read v) is obtained)
