-- What a verifier finds of an input.
use Rattle.std.specs.Prelude.{◌≡◌, ℕ, List, Option, None, Some}
use Rattle.stark_transcript.specs.declared.error.VerificationError.TheVariants as error
use Rattle.stark_protocol.specs.Instance.{ProtocolOps}
use Rattle.stark_answers.specs.CheckedAir.{CheckedAir}
use Rattle.stark_commands.specs.Input.{Base, Extension}
use Rattle.stark_commands.specs.ProofInput.{NamedChallenger, ProofNumbers, hashing, scripted}
use Rattle.stark_answers.specs.Verify.{IsVerdict}
use Rattle.stark_answers.specs.declared.verdict.Verdict.{Verdict}
use Rattle.stark_answers.specs.declared.verdict.Verdict.TheVariants as verdict

-- With the challenger that is named.
module _ {S H R K T P X Y : Type 0} (hashing_ops : ProtocolOps S Base Extension H K T P X Y) (script_ops : ProtocolOps S Base Extension R K T P X Y) (log_rows : ℕ) (scheme : S) (hashing_start : H) (script_start : List Base → R) where
  unfoldable pub IsVerdictBy : CheckedAir Base → ProofNumbers K P → NamedChallenger → Verdict → Type 0
  IsVerdictBy air m hashing v = IsVerdict hashing_ops log_rows scheme hashing_start air m.proof m.public_values m.ood_bits m.alpha_bits v
  IsVerdictBy air m (scripted numbers) v = IsVerdict script_ops log_rows scheme (script_start numbers) air m.proof m.public_values m.ood_bits m.alpha_bits v

  -- of what was read, if it was
  unfoldable pub IsVerified : CheckedAir Base → Option (ProofNumbers K P) → Verdict → Type 0
  IsVerified air None v = v ≡ verdict.BadInput
  IsVerified air (Some m) v = IsVerdictBy air m m.challenger v
