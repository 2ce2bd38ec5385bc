-- A prover's draws, and a search for a witness that finds none.
use Rattle.std.specs.Prelude.{◌≡◌, ℕ, false, List, Ok, Option}
use Rattle.std.specs.Option.{option_copied}
use Rattle.stark_support.specs.Sponge.{Event, SpongeOps, replay}
use Rattle.stark_transcript.specs.Replay.{PhaseOutcome, constraint_events, constraint_outcome, ood_events, ood_outcome, prover_constraint_outcome, prover_ood_outcome, succeeds}
use Rattle.stark_transcript.specs.declared.shape.GrindExhausted.{GrindExhausted}
use Rattle.stark_transcript.specs.declared.shape.TranscriptPhase.TheVariants.{Bound, Drawn}
use Rattle.stark_transcript.specs.declared.transcript.prover.StarkProverTranscript.{StarkProverTranscript}
use Rattle.stark_prover.specs.declared.transcript.BeforeAlpha.{BeforeAlpha}
use Rattle.stark_prover.specs.declared.transcript.BeforeZeta.{BeforeZeta}

-- So many bits are asked for once these events are played, and no element is a witness of them.
pub record IsExhausted {C F E K : Type 0} (ops : SpongeOps C F E K) (bits : ℕ) (events : List (Event F K)) (state : C) (error : GrindExhausted) : Type 0 where
  pub bits_are : error.bits ≡ bits
  pub none_passes : (witness : F) → ops.passes (replay ops events state) bits witness ≡ false

module _ {C F E K : Type 0} (ops : SpongeOps C F E K) (transcript : StarkProverTranscript C F E) (message : BeforeAlpha K F) where
  -- How the prover draws alpha behind this message.
  abbrev pub alpha_outcome : PhaseOutcome C (E × Option F) GrindExhausted
  alpha_outcome = prover_constraint_outcome ops transcript.shape message.trace.now (option_copied message.preprocessed) message.public_values.now transcript.challenger.now

  -- A verifier with this witness draws this alpha, and is left in this state;
  abbrev pub DrawsAlpha : E × F → C → Type 0
  DrawsAlpha drawn state = constraint_outcome ops transcript.shape message.trace.now (option_copied message.preprocessed) message.public_values.now drawn.1 transcript.challenger.now ≡ succeeds drawn.0 state Bound

  -- the prover draws it with some witness, where it searches for one;
  abbrev pub AnswersAlpha : E → Type 0
  AnswersAlpha alpha = (witness : Option F) × (alpha_outcome.answer ≡ Ok (alpha, witness))

  -- or it finds none.
  abbrev pub IsAlphaExhausted : GrindExhausted → Type 0
  IsAlphaExhausted error = IsExhausted ops transcript.shape.constraint_pow_bits (constraint_events message.trace.now (option_copied message.preprocessed) message.public_values.now) transcript.challenger.now error

module _ {C F E K : Type 0} (ops : SpongeOps C F E K) (transcript : StarkProverTranscript C F E) (message : BeforeZeta K) where
  -- What the draw of zeta answers, and the state that it leaves.
  abbrev pub zeta_outcome : PhaseOutcome C (E × Option F) GrindExhausted
  zeta_outcome = prover_ood_outcome ops transcript.shape message.quotient.now (option_copied message.random) transcript.challenger.now

  abbrev pub DrawsZeta : E × F → C → Type 0
  DrawsZeta drawn state = ood_outcome ops transcript.shape message.quotient.now (option_copied message.random) drawn.1 transcript.challenger.now ≡ succeeds drawn.0 state Drawn

  abbrev pub AnswersZeta : E → Type 0
  AnswersZeta zeta = (witness : Option F) × (zeta_outcome.answer ≡ Ok (zeta, witness))

  abbrev pub IsZetaExhausted : GrindExhausted → Type 0
  IsZetaExhausted error = IsExhausted ops transcript.shape.ood_pow_bits (ood_events message.quotient.now (option_copied message.random)) transcript.challenger.now error
