-- A protocol without work before alpha.
use Rattle.std.specs.Prelude.{◌≡◌, ℕ, List, [], ◌∷◌, Option, None, is_some}
use Rattle.std.proofs.Common.{◌∙◌, ap, sym}
use Rattle.stark_support.specs.Sponge.{SpongeOps, commitment, draw_extension, replay}
use Rattle.stark_support.specs.SpongeFacts.{replay_append}
use Rattle.stark_transcript.specs.Replay.{PhaseOutcome, checked, constraint_events, constraint_outcome, ends_with, ground, plain_constraint_outcome, plain_prover_outcome, preprocessed_fault, prover_constraint_outcome, succeeds, unless_fault}
use Rattle.stark_transcript.specs.declared.shape.GrindExhausted.{GrindExhausted}
use Rattle.stark_transcript.specs.declared.shape.StarkShape.{StarkShape}
use Rattle.stark_transcript.specs.declared.shape.StarkTranscriptFailure.TheVariants.{AlphaPowWitness}
use Rattle.stark_transcript.specs.declared.shape.TranscriptPhase.TheVariants.{Bound}

-- Where none is asked for, the verifier's phase is that of a protocol without it, whatever the witness.
pub verifier_without_work : {C F E K : Type 0} (ops : SpongeOps C F E K) (shape : StarkShape) (trace : K) (preprocessed : Option K) (public_values : List F) (witness : F) (start : C) → shape.constraint_pow_bits ≡ 0
    → constraint_outcome ops shape trace preprocessed public_values witness start ≡ plain_constraint_outcome ops shape trace preprocessed public_values start
verifier_without_work ops shape trace preprocessed public_values witness start none =
    let events = constraint_events trace preprocessed public_values in
    ap (λ (bits : ℕ). unless_fault (preprocessed_fault shape (is_some preprocessed)) (replay ops (commitment trace ∷ []) start)
    (ends_with Bound (checked ops (AlphaPowWitness bits) bits witness (replay ops events start)))) none ∙
    ap (λ state. unless_fault (preprocessed_fault shape (is_some preprocessed)) (replay ops (commitment trace ∷ []) start)
    (succeeds (ops.draw (replay ops events start)) state Bound)) (sym (replay_append ops events (draw_extension ∷ []) start))

-- A challenge drawn from one state with no witness, and the state that is left.
abbrev drawn_freely : {C F E K : Type 0} → SpongeOps C F E K → C → C → PhaseOutcome C (E × Option F) GrindExhausted
drawn_freely ops before state = succeeds (ops.draw before, None) state Bound

-- The prover's too, which then has no witness.
pub prover_without_work : {C F E K : Type 0} (ops : SpongeOps C F E K) (shape : StarkShape) (trace : K) (preprocessed : Option K) (public_values : List F) (start : C) → shape.constraint_pow_bits ≡ 0
    → prover_constraint_outcome ops shape trace preprocessed public_values start ≡ plain_prover_outcome ops trace preprocessed public_values start
prover_without_work ops shape trace preprocessed public_values start none =
    let events = constraint_events trace preprocessed public_values in
    ap (λ (bits : ℕ). ends_with Bound (ground ops bits (replay ops events start))) none ∙
    ap (drawn_freely ops (replay ops events start)) (sym (replay_append ops events (draw_extension ∷ []) start))
