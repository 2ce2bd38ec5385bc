-- The phases of a transcript, from its shape and the state of its challenger.
use Rattle.std.specs.Prelude.{◌≡◌, false, List, ◌++◌, Option, option_map}
use Rattle.std.specs.Borrow.{Bor}
use Rattle.stark_support.specs.Sponge.{SpongeOps, replay}
use Rattle.stark_transcript.specs.Replay.{IsWitness, PhaseOutcome, constraint_events, constraint_outcome, element_events, ood_events, ood_outcome, optional_events, plain_constraint_outcome, plain_prover_outcome, prover_constraint_outcome, prover_ood_outcome, succeeds}
use Rattle.stark_transcript.specs.declared.shape.GrindExhausted.{GrindExhausted}
use Rattle.stark_transcript.specs.declared.shape.StarkShape.{StarkShape}
use Rattle.stark_transcript.specs.declared.shape.StarkTranscriptFailure.{StarkTranscriptFailure}
use Rattle.stark_transcript.specs.declared.shape.TranscriptPhase.TheVariants.{Bound, Drawn}
use Rattle.stark_transcript.specs.declared.transcript.prover.StarkProverTranscript.{StarkProverTranscript}
use Rattle.stark_transcript.specs.declared.transcript.verifier.StarkVerifierTranscript.{StarkVerifierTranscript}

abbrev lent : {K : Type 0} → Option (Bor K) → Option K
lent k = option_map (λ k. k.now) k

-- The state after the commitment to the preprocessed trace, where there is one, and the public values.
abbrev pub after_values : {C F E K : Type 0} → SpongeOps C F E K → Option (Bor K) → List F → C → C
after_values ops preprocessed public_values start = replay ops (optional_events (lent preprocessed) ++ element_events public_values) start

module _ {C F E K : Type 0} (ops : SpongeOps C F E K) where
  -- ---- the verifier's phases, which draw alpha and zeta

  abbrev pub alpha_run : StarkVerifierTranscript C F E → K → Option (Bor K) → List F → F → PhaseOutcome C E StarkTranscriptFailure
  alpha_run t trace preprocessed public_values witness = constraint_outcome ops t.shape trace (lent preprocessed) public_values witness t.challenger.now

  abbrev pub zeta_run : StarkVerifierTranscript C F E → K → Option (Bor K) → F → PhaseOutcome C E StarkTranscriptFailure
  zeta_run t quotient random witness = ood_outcome ops t.shape quotient (lent random) witness t.challenger.now

  -- ---- the prover's, which search the witnesses

  abbrev pub alpha_search : StarkProverTranscript C F E → K → Option (Bor K) → List F → PhaseOutcome C (E × Option F) GrindExhausted
  alpha_search t trace preprocessed public_values = prover_constraint_outcome ops t.shape trace (lent preprocessed) public_values t.challenger.now

  abbrev pub zeta_search : StarkProverTranscript C F E → K → Option (Bor K) → PhaseOutcome C (E × Option F) GrindExhausted
  zeta_search t quotient random = prover_ood_outcome ops t.shape quotient (lent random) t.challenger.now

  -- No element is a witness of the work before alpha, or of that before zeta.
  abbrev pub HasNoAlphaWitness : StarkProverTranscript C F E → K → Option (Bor K) → List F → Type 0
  HasNoAlphaWitness t trace preprocessed public_values =
      (witness : F) → ops.passes (replay ops (constraint_events trace (lent preprocessed) public_values) t.challenger.now) t.shape.constraint_pow_bits witness ≡ false

  abbrev pub HasNoZetaWitness : StarkProverTranscript C F E → K → Option (Bor K) → Type 0
  HasNoZetaWitness t quotient random =
      (witness : F) → ops.passes (replay ops (ood_events quotient (lent random)) t.challenger.now) t.shape.ood_pow_bits witness ≡ false

  -- With the witness that was found a verifier draws the same alpha, or the same zeta, and its challenger has the state of this transcript's.
  abbrev pub DrawsAlpha : StarkProverTranscript C F E → K → Option (Bor K) → List F → StarkProverTranscript C F E → E × Option F → Type 0
  DrawsAlpha t trace preprocessed public_values played drawn = (witness : F) → IsWitness drawn.1 witness
      → constraint_outcome ops t.shape trace (lent preprocessed) public_values witness t.challenger.now ≡ succeeds drawn.0 played.challenger.now Bound

  abbrev pub DrawsZeta : StarkProverTranscript C F E → K → Option (Bor K) → StarkProverTranscript C F E → E × Option F → Type 0
  DrawsZeta t quotient random played drawn = (witness : F) → IsWitness drawn.1 witness
      → ood_outcome ops t.shape quotient (lent random) witness t.challenger.now ≡ succeeds drawn.0 played.challenger.now Drawn

  -- ---- without work before alpha

  -- The phase that draws alpha is that of a protocol without such work: the verifier's, whatever the witness,
  abbrev pub IsPlainForVerifier : Type 0
  IsPlainForVerifier = (shape : StarkShape) (trace : K) (preprocessed : Option K) (public_values : List F) (witness : F) (start : C) → shape.constraint_pow_bits ≡ 0
      → constraint_outcome ops shape trace preprocessed public_values witness start ≡ plain_constraint_outcome ops shape trace preprocessed public_values start

  -- and the prover's.
  abbrev pub IsPlainForProver : Type 0
  IsPlainForProver = (shape : StarkShape) (trace : K) (preprocessed : Option K) (public_values : List F) (start : C) → shape.constraint_pow_bits ≡ 0
      → prover_constraint_outcome ops shape trace preprocessed public_values start ≡ plain_prover_outcome ops trace preprocessed public_values start
