-- Where an AIR's verifier accepts, the columns that the proof lists are sound, and so are all that take its opened values.
use Rattle.std.proofs.Common.{◌≡◌, inl, inr, ℕ, List}
use Rattle.stark_support.specs.Ring.{FieldLaws}
use Rattle.stark_air.specs.Declaration.{IsDeclared}
use Rattle.stark_air.specs.Layout.{LeavesWithin}
use Rattle.stark_proof.specs.ProofView.{ProofView}
use Rattle.stark_protocol.specs.Instance.{ProtocolOps}
use Rattle.stark_verifier.proofs.SoundAcceptanceSteps.{accepted_is_sound}
use Rattle.stark_answers.specs.CheckedAir.{CheckedAir}
use Rattle.stark_answers.specs.SoundRun.{IsSoundOfTaken, IsSoundWithKey, Listed}
use Rattle.stark_answers.specs.Verify.{IsVerdict, instance_of}
use Rattle.stark_answers.specs.declared.verdict.Refusal.{Refusal}
use Rattle.stark_answers.specs.declared.verdict.Verdict.TheVariants as verdict
use Rattle.stark_answers.proofs.SoundSteps.{InTheClear, accepted_columns_are_sound}

-- What is accepted is refused for nothing.
pub accepts_none : {why : Refusal} → verdict.Accepted ≡ verdict.Refused why → ⊥
accepts_none is = cc

pub accepted_soundly : {S F E C T P X Y : Type 0} (ops : ProtocolOps S F E C (Listed F) T P X Y) (log_rows : ℕ) → InTheClear ops log_rows → (air : CheckedAir F) → LeavesWithin air.layout air.constraints
    → IsDeclared air.layout air.preprocessed_trace air.periodic_columns air.next_columns air.preprocessed_next_columns
    → (scheme : S) (first_state : C) (proof : ProofView (Listed F) E P F) (public_values : List F) (ood_bits alpha_bits : ℕ)
    → IsVerdict ops log_rows scheme first_state air proof public_values ood_bits alpha_bits verdict.Accepted → IsSoundWithKey ops log_rows scheme first_state air proof public_values ood_bits alpha_bits
unfolding IsVerdict IsSoundWithKey
accepted_soundly ops log_rows clear air within is_declared scheme first_state proof public_values ood_bits alpha_bits (inr misshapen) = absurd (accepts_none misshapen.2)
accepted_soundly ops log_rows clear air within is_declared scheme first_state proof public_values ood_bits alpha_bits (inl obtained) = (
  obtained.0,
  obtained.1,
  accepted_columns_are_sound ops log_rows clear (instance_of air scheme first_state ood_bits alpha_bits public_values obtained.0) proof air.preprocessed_trace within is_declared obtained.1 obtained.2,
)

pub accepted_of_taken : {S F E C K T P X Y : Type 0} (ops : ProtocolOps S F E C K T P X Y) (log_rows : ℕ) → FieldLaws ops.opening.fields.ring ops.opening.fields.inverse → (air : CheckedAir F) → LeavesWithin air.layout air.constraints
    → IsDeclared air.layout air.preprocessed_trace air.periodic_columns air.next_columns air.preprocessed_next_columns
    → (scheme : S) (first_state : C) (proof : ProofView K E P F) (public_values : List F) (ood_bits alpha_bits : ℕ)
    → IsVerdict ops log_rows scheme first_state air proof public_values ood_bits alpha_bits verdict.Accepted → IsSoundOfTaken ops log_rows scheme first_state air proof public_values ood_bits alpha_bits
unfolding IsVerdict IsSoundOfTaken
accepted_of_taken ops log_rows laws air within is_declared scheme first_state proof public_values ood_bits alpha_bits (inr misshapen) = absurd (accepts_none misshapen.2)
accepted_of_taken ops log_rows laws air within is_declared scheme first_state proof public_values ood_bits alpha_bits (inl obtained) = (
  obtained.0,
  obtained.1,
  accepted_is_sound ops (instance_of air scheme first_state ood_bits alpha_bits public_values obtained.0) proof laws within air.preprocessed_trace is_declared obtained.2,
)
