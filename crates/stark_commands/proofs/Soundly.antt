-- Where an AIR's verifier accepts, the columns that the proof lists are sound.
use Rattle.std.proofs.Common.{◌≡◌, ◌⊎◌, ◌∙◌, inl, inr, refl, rules, subst, sym, ℕ, List, Option, None, Some}
use Rattle.stark_air.specs.Declaration.{IsDeclared}
use Rattle.stark_air.specs.Layout.{LeavesWithin}
use Rattle.stark_protocol.specs.Instance.{ProtocolOps}
use Rattle.stark_answers.specs.CheckedAir.{CheckedAir}
use Rattle.stark_commands.specs.Airs.{sample}
use Rattle.stark_commands.specs.Input.{Base, Extension}
use Rattle.stark_commands.specs.ProofInput.{NamedChallenger, ProofNumbers, hashing, scripted}
use Rattle.stark_commands.specs.SoundRun.{IsSoundBy, IsSoundlyRead}
use Rattle.stark_answers.specs.SoundRun.{Listed}
use Rattle.stark_commands.specs.Verify.{IsVerdictBy, IsVerified}
use Rattle.stark_answers.specs.declared.verdict.Verdict.{Verdict}
use Rattle.stark_answers.specs.declared.verdict.Refusal.TheVariants as refusal
use Rattle.stark_answers.specs.declared.verdict.Verdict.TheVariants as verdict
use Rattle.stark_commands.specs.declared.sample.SampleAir.{SampleAir}
use Rattle.stark_commands.specs.declared.sample.SampleAir.TheVariants.{Counter, Cubic, Fibonacci, Periodic, Preprocessed, Pair}
use Rattle.stark_answers.proofs.SoundSteps.{InTheClear}
use Rattle.stark_answers.proofs.Soundly.{accepted_soundly}

-- no constraint of a sample reads outside its layout
pub sample_within : (air : SampleAir) → LeavesWithin (sample air).layout (sample air).constraints
sample_within Counter = search rules
sample_within Cubic = search rules
sample_within Fibonacci = search rules
sample_within Periodic = search rules
sample_within Preprocessed = search rules
sample_within Pair = search rules

-- its counts are those of what it declares
pub sample_declared : (air : SampleAir) → IsDeclared (sample air).layout (sample air).preprocessed_trace (sample air).periodic_columns (sample air).next_columns (sample air).preprocessed_next_columns
sample_declared Counter = record { preprocessed_width = refl; periodic_columns = refl; main_next_row = refl; preprocessed_next_row = refl }
sample_declared Cubic = record { preprocessed_width = refl; periodic_columns = refl; main_next_row = refl; preprocessed_next_row = refl }
sample_declared Fibonacci = record { preprocessed_width = refl; periodic_columns = refl; main_next_row = refl; preprocessed_next_row = refl }
sample_declared Periodic = record { preprocessed_width = refl; periodic_columns = refl; main_next_row = refl; preprocessed_next_row = refl }
sample_declared Preprocessed = record { preprocessed_width = refl; periodic_columns = refl; main_next_row = refl; preprocessed_next_row = refl }
sample_declared Pair = record { preprocessed_width = refl; periodic_columns = refl; main_next_row = refl; preprocessed_next_row = refl }

bad_input_clash : verdict.Accepted ≡ verdict.BadInput → ⊥
bad_input_clash h = cc

refusal_clash : verdict.Accepted ≡ verdict.Refused refusal.OutOfMemory → ⊥
refusal_clash h = cc

module _ {S H R T P X Y : Type 0} (hashing_ops : ProtocolOps S Base Extension H (Listed Base) T P X Y) (script_ops : ProtocolOps S Base Extension R (Listed Base) T P X Y) (log_rows : ℕ) (scheme : S) (hashing_start : H) (script_start : List Base → R)
    (hashing_clear : InTheClear hashing_ops log_rows) (script_clear : InTheClear script_ops log_rows) (air : CheckedAir Base) (within : LeavesWithin air.layout air.constraints)
    (is_declared : IsDeclared air.layout air.preprocessed_trace air.periodic_columns air.next_columns air.preprocessed_next_columns) where
  accepted_soundly_by : (m : ProofNumbers (Listed Base) P) (named : NamedChallenger) → IsVerdictBy hashing_ops script_ops log_rows scheme hashing_start script_start air m named verdict.Accepted
      → IsSoundBy hashing_ops script_ops log_rows scheme hashing_start script_start air m named
  unfolding IsVerdictBy IsSoundBy
  accepted_soundly_by m hashing obtained = accepted_soundly hashing_ops log_rows hashing_clear air within is_declared scheme hashing_start m.proof m.public_values m.ood_bits m.alpha_bits obtained
  accepted_soundly_by m (scripted numbers) obtained = accepted_soundly script_ops log_rows script_clear air within is_declared scheme (script_start numbers) m.proof m.public_values m.ood_bits m.alpha_bits obtained

  -- What the verifier of an AIR accepts, whose constraints read within what it declares, is sound.
  pub verified_soundly : (read : Option (ProofNumbers (Listed Base) P)) → IsVerified hashing_ops script_ops log_rows scheme hashing_start script_start air read verdict.Accepted
      → IsSoundlyRead hashing_ops script_ops log_rows scheme hashing_start script_start air read
  unfolding IsVerified IsSoundlyRead
  verified_soundly None verified = absurd (bad_input_clash verified)
  verified_soundly (Some m) verified = accepted_soundly_by m m.challenger verified

  -- It is so where an answer accepts, which isn't want of memory.
  pub accepted_of_sample : (read : Option (ProofNumbers (Listed Base) P)) (v : Verdict) → IsVerified hashing_ops script_ops log_rows scheme hashing_start script_start air read v ⊎ (v ≡ verdict.Refused refusal.OutOfMemory) → v ≡ verdict.Accepted
      → IsSoundlyRead hashing_ops script_ops log_rows scheme hashing_start script_start air read
  accepted_of_sample read v (inl said) is = verified_soundly read (subst (λ w. IsVerified hashing_ops script_ops log_rows scheme hashing_start script_start air read w) is said)
  accepted_of_sample read v (inr memory) is = absurd (refusal_clash (sym is ∙ memory))
