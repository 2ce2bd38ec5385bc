-- What a prover draws is what a verifier does.
use Rattle.std.specs.Prelude.{◌≡◌, List, Option}
use Rattle.std.proofs.Common.{◌∙◌, ap}
use Rattle.stark_support.specs.Sponge.{SpongeOps}
use Rattle.stark_transcript.specs.Replay.{constraint_outcome, ood_outcome, succeeds}
use Rattle.stark_transcript.specs.declared.shape.StarkShape.{StarkShape}
use Rattle.stark_transcript.specs.declared.shape.TranscriptPhase.TheVariants.{Bound, Drawn}
use Rattle.stark_protocol.specs.Challenges.{challenges_outcome, continued, paired}

-- Both phases, one after the other.
pub both_phases : {C F E K : Type 0} (ops : SpongeOps C F E K) (shape : StarkShape) (trace : K) (preprocessed : Option K) (public_values : List F) (alpha_witness : F) (quotient : K) (random : Option K) (witness : F) (start bound drawn : C) (alpha zeta : E)
    → constraint_outcome ops shape trace preprocessed public_values alpha_witness start ≡ succeeds alpha bound Bound → ood_outcome ops shape quotient random witness bound ≡ succeeds zeta drawn Drawn
    → challenges_outcome ops shape trace preprocessed public_values alpha_witness quotient random witness start ≡ succeeds (alpha, zeta) drawn Drawn
both_phases ops shape trace preprocessed public_values alpha_witness quotient random witness start bound drawn alpha zeta first second =
    ap (λ outcome. continued outcome.answer outcome.state (λ a. paired a (ood_outcome ops shape quotient random witness outcome.state).answer (ood_outcome ops shape quotient random witness outcome.state).state)) first ∙
    ap (λ outcome. paired alpha outcome.answer outcome.state) second
