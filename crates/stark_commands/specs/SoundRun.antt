-- What an accepted proof says of the columns that its commitments list.
use Rattle.std.specs.Prelude.{ℕ, List, Option, None, Some}
use Rattle.stark_protocol.specs.Instance.{ProtocolOps}
use Rattle.stark_answers.specs.CheckedAir.{CheckedAir}
use Rattle.stark_answers.specs.SoundRun.{IsSoundWithKey, Listed}
use Rattle.stark_commands.specs.Input.{Base, Extension}
use Rattle.stark_commands.specs.ProofInput.{NamedChallenger, ProofNumbers, hashing, scripted}

-- With the challenger that is named.
module _ {S H R T P X Y : Type 0} (hashing_ops : ProtocolOps S Base Extension H (Listed Base) T P X Y) (script_ops : ProtocolOps S Base Extension R (Listed Base) T P X Y) (log_rows : ℕ) (scheme : S) (hashing_start : H) (script_start : List Base → R) where
  unfoldable pub IsSoundBy : CheckedAir Base → ProofNumbers (Listed Base) P → NamedChallenger → Type 0
  IsSoundBy air m hashing = IsSoundWithKey hashing_ops log_rows scheme hashing_start air m.proof m.public_values m.ood_bits m.alpha_bits
  IsSoundBy air m (scripted numbers) = IsSoundWithKey script_ops log_rows scheme (script_start numbers) air m.proof m.public_values m.ood_bits m.alpha_bits

  -- of what was read, and something was
  unfoldable pub IsSoundlyRead : CheckedAir Base → Option (ProofNumbers (Listed Base) P) → Type 0
  IsSoundlyRead air None = ⊥
  IsSoundlyRead air (Some m) = IsSoundBy air m m.challenger
