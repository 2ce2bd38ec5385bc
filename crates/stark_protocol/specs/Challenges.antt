-- The run of a verifier's transcript: both challenges, or the failure that comes first.
use Rattle.std.specs.Prelude.{List, Option, Result, Ok, Err}
use Rattle.stark_support.specs.Sponge.{SpongeOps}
use Rattle.stark_transcript.specs.declared.shape.StarkShape.{StarkShape}
use Rattle.stark_transcript.specs.declared.shape.StarkTranscriptFailure.{StarkTranscriptFailure}
use Rattle.stark_transcript.specs.declared.shape.TranscriptPhase.TheVariants.{Drawn}
use Rattle.stark_transcript.specs.Replay.{PhaseOutcome, constraint_outcome, fails, ood_outcome, succeeds}

-- What follows a first phase's answer, where it is a challenge.
abbrev pub continued : {C A B X : Type 0} → Result A X → C → (A → PhaseOutcome C B X) → PhaseOutcome C B X
continued (Ok challenge) state next = next challenge
continued (Err failure) state next = fails failure state

-- A second challenge beside the first.
abbrev pub paired : {C A B X : Type 0} → A → Result B X → C → PhaseOutcome C (A × B) X
paired first (Ok second) state = succeeds (first, second) state Drawn
paired first (Err failure) state = fails failure state

-- Alpha and zeta, in the replay of commitments, public values and both witnesses, alpha's right behind the public values.
abbrev pub challenges_outcome : {C F E K : Type 0} → SpongeOps C F E K → StarkShape → K → Option K → List F → F → K → Option K → F → C → PhaseOutcome C (E × E) StarkTranscriptFailure
challenges_outcome ops shape trace preprocessed public_values alpha_witness quotient random witness start =
    let first = constraint_outcome ops shape trace preprocessed public_values alpha_witness start in
    continued first.answer first.state (λ alpha.
    let second = ood_outcome ops shape quotient random witness first.state in
    paired alpha second.answer second.state)
