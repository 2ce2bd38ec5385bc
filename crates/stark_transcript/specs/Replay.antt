-- The transcript of a proof of one AIR, as events that are played on a sponge.
use Rattle.std.specs.Prelude.{◌≡◌, ℕ, Bool, true, false, cond, ltb, List, [], ◌∷◌, ◌++◌, map, Option, None, Some, is_some, Result, Ok, Err}
use Rattle.stark_support.specs.Sponge.{SpongeOps, Event, element, commitment, draw_extension, check, replay}
use Rattle.stark_transcript.specs.declared.shape.StarkShape.{StarkShape}
use Rattle.stark_transcript.specs.declared.shape.StarkTranscriptFailure.{StarkTranscriptFailure}
use Rattle.stark_transcript.specs.declared.shape.StarkTranscriptFailure.TheVariants.{MissingPreprocessedCommitment, UnexpectedPreprocessedCommitment, MissingRandomCommitment, UnexpectedRandomCommitment, AlphaPowWitness, OodPowWitness}
use Rattle.stark_transcript.specs.declared.shape.GrindExhausted.{GrindExhausted}
use Rattle.stark_transcript.specs.declared.shape.TranscriptPhase.{TranscriptPhase}
use Rattle.stark_transcript.specs.declared.shape.TranscriptPhase.TheVariants.{Bound, Drawn, Failed}

-- ---- events

-- A commitment that may be there.
abbrev pub optional_events : {F K : Type 0} → Option K → List (Event F K)
optional_events (Some k) = commitment k ∷ []
optional_events None = []

abbrev pub element_events : {F K : Type 0} → List F → List (Event F K)
element_events xs = map (λ x. element x) xs

-- What is played before the work before alpha.
abbrev pub constraint_events : {F K : Type 0} → K → Option K → List F → List (Event F K)
constraint_events trace preprocessed public_values = commitment trace ∷ (optional_events preprocessed ++ element_events public_values)

-- What is played after alpha, before the work and zeta.
abbrev pub ood_events : {F K : Type 0} → K → Option K → List (Event F K)
ood_events quotient random = commitment quotient ∷ optional_events random

-- ---- what a phase leaves

-- Its answer, the sponge's state and the transcript's phase. X is why it fails.
pub record PhaseOutcome (C A X : Type 0) : Type 0 where
  pub answer : Result A X
  pub state : C
  pub phase : TranscriptPhase

abbrev pub succeeds : {C A X : Type 0} → A → C → TranscriptPhase → PhaseOutcome C A X
succeeds answer state phase = record { answer = Ok answer; state = state; phase = phase }

abbrev pub fails : {C A X : Type 0} → X → C → PhaseOutcome C A X
fails failure state = record { answer = Err failure; state = state; phase = Failed }

-- What was played, and then an element drawn.
abbrev pub draws : {C F E K X : Type 0} → SpongeOps C F E K → List (Event F K) → C → TranscriptPhase → PhaseOutcome C E X
draws ops events start phase = succeeds (ops.draw (replay ops events start)) (replay ops (events ++ draw_extension ∷ []) start) phase

-- ---- what work leaves

-- Its answer, and the sponge's state.
pub record Worked (C A X : Type 0) : Type 0 where
  pub answer : Result A X
  pub state : C

abbrev pub works : {C A X : Type 0} → A → C → Worked C A X
works answer state = record { answer = Ok answer; state = state }

abbrev pub stops : {C A X : Type 0} → X → C → Worked C A X
stops failure state = record { answer = Err failure; state = state }

-- The phase that an answer leaves.
abbrev pub reached : {A X : Type 0} → Result A X → TranscriptPhase → TranscriptPhase
reached (Ok answer) phase = phase
reached (Err failure) phase = Failed

-- A phase that ends with work: it fails where the work does.
abbrev pub ends_with : {C A X : Type 0} → TranscriptPhase → Worked C A X → PhaseOutcome C A X
ends_with phase worked = record { answer = worked.answer; state = worked.state; phase = reached worked.answer phase }

-- ---- the commitments that a shape describes

-- Whether a commitment is described, whether it is there, and what is wrong.
abbrev pub optional_fault : Bool → Bool → StarkTranscriptFailure → StarkTranscriptFailure → Option StarkTranscriptFailure
optional_fault true true missing unexpected = None
optional_fault true false missing unexpected = Some missing
optional_fault false true missing unexpected = Some unexpected
optional_fault false false missing unexpected = None

abbrev pub preprocessed_fault : StarkShape → Bool → Option StarkTranscriptFailure
preprocessed_fault shape is_there =
    optional_fault (ltb 0 shape.preprocessed_width) is_there (MissingPreprocessedCommitment shape.preprocessed_width) UnexpectedPreprocessedCommitment

abbrev pub random_fault : StarkShape → Bool → Option StarkTranscriptFailure
random_fault shape is_there = optional_fault shape.has_randomization is_there MissingRandomCommitment UnexpectedRandomCommitment

-- A fault is answered after the events before it; without one the run goes on.
abbrev pub unless_fault : {C A : Type 0} → Option StarkTranscriptFailure → C → PhaseOutcome C A StarkTranscriptFailure → PhaseOutcome C A StarkTranscriptFailure
unless_fault (Some failure) state outcome = fails failure state
unless_fault None state outcome = outcome

-- ---- the verifier

-- The check of the work, where some is asked for, and the challenge that is drawn behind it.
abbrev pub checked : {C F E K : Type 0} → SpongeOps C F E K → StarkTranscriptFailure → ℕ → F → C → Worked C E StarkTranscriptFailure
checked ops failure bits witness state =
    cond (ltb 0 bits)
    (cond (ops.passes state bits witness) (works (ops.draw (replay ops (check bits witness ∷ []) state)) (replay ops (check bits witness ∷ draw_extension ∷ []) state)) (stops failure (replay ops (check bits witness ∷ []) state)))
    (works (ops.draw state) (replay ops (draw_extension ∷ []) state))

abbrev pub constraint_outcome : {C F E K : Type 0} → SpongeOps C F E K → StarkShape → K → Option K → List F → F → C → PhaseOutcome C E StarkTranscriptFailure
constraint_outcome ops shape trace preprocessed public_values witness start =
    unless_fault (preprocessed_fault shape (is_some preprocessed)) (replay ops (commitment trace ∷ []) start)
    (ends_with Bound (checked ops (AlphaPowWitness shape.constraint_pow_bits) shape.constraint_pow_bits witness (replay ops (constraint_events trace preprocessed public_values) start)))

abbrev pub ood_outcome : {C F E K : Type 0} → SpongeOps C F E K → StarkShape → K → Option K → F → C → PhaseOutcome C E StarkTranscriptFailure
ood_outcome ops shape quotient random witness start =
    unless_fault (random_fault shape (is_some random)) (replay ops (commitment quotient ∷ []) start)
    (ends_with Drawn (checked ops (OodPowWitness shape.ood_pow_bits) shape.ood_pow_bits witness (replay ops (ood_events quotient random) start)))

-- ---- the prover

-- The search for a witness, where work is asked for, and the challenge that is drawn behind it.
abbrev pub searched : {C F E K : Type 0} → SpongeOps C F E K → ℕ → Option F → C → Worked C (E × Option F) GrindExhausted
searched ops bits (Some w) state = works (ops.draw (replay ops (check bits w ∷ []) state), Some w) (replay ops (check bits w ∷ draw_extension ∷ []) state)
searched ops bits None state = stops (record { bits = bits }) state

abbrev pub ground : {C F E K : Type 0} → SpongeOps C F E K → ℕ → C → Worked C (E × Option F) GrindExhausted
ground ops bits state =
    cond (ltb 0 bits)
    (searched ops bits (ops.ground_witness state bits) state)
    (works (ops.draw state, None) (replay ops (draw_extension ∷ []) state))

abbrev pub prover_constraint_outcome : {C F E K : Type 0} → SpongeOps C F E K → StarkShape → K → Option K → List F → C → PhaseOutcome C (E × Option F) GrindExhausted
prover_constraint_outcome ops shape trace preprocessed public_values start = ends_with Bound (ground ops shape.constraint_pow_bits (replay ops (constraint_events trace preprocessed public_values) start))

abbrev pub prover_ood_outcome : {C F E K : Type 0} → SpongeOps C F E K → StarkShape → K → Option K → C → PhaseOutcome C (E × Option F) GrindExhausted
prover_ood_outcome ops shape quotient random start = ends_with Drawn (ground ops shape.ood_pow_bits (replay ops (ood_events quotient random) start))

-- ---- without work before alpha

-- The verifier's phase that draws alpha, in a protocol without such work: that of eleven numbers.
abbrev pub plain_constraint_outcome : {C F E K : Type 0} → SpongeOps C F E K → StarkShape → K → Option K → List F → C → PhaseOutcome C E StarkTranscriptFailure
plain_constraint_outcome ops shape trace preprocessed public_values start =
    unless_fault (preprocessed_fault shape (is_some preprocessed)) (replay ops (commitment trace ∷ []) start)
    (draws ops (constraint_events trace preprocessed public_values) start Bound)

-- The prover's, with no witness.
abbrev pub plain_prover_outcome : {C F E K : Type 0} → SpongeOps C F E K → K → Option K → List F → C → PhaseOutcome C (E × Option F) GrindExhausted
plain_prover_outcome ops trace preprocessed public_values start =
    let events = constraint_events trace preprocessed public_values in
    succeeds (ops.draw (replay ops events start), None) (replay ops (events ++ draw_extension ∷ []) start) Bound

-- The witness is the prover's own, where there is one.
abbrev pub IsWitness : {F : Type 0} → Option F → F → Type 0
IsWitness (Some own) witness = witness ≡ own
IsWitness None witness = Unit {0}
