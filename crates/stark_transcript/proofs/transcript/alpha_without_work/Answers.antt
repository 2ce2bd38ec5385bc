use Rattle.stark_transcript.specs.ReplayFacts.{prover_without_work, verifier_without_work}
use Rattle.stark_transcript.proofs.transcript.alpha_without_work.Goals as goal

pub returns-clause-verifier : goal.returns-clause-verifier
returns-clause-verifier g c = λ ops shape trace preprocessed public_values witness start none. verifier_without_work ops shape trace preprocessed public_values witness start none

pub returns-clause-prover : goal.returns-clause-prover
returns-clause-prover g c = λ ops shape trace preprocessed public_values start none. prover_without_work ops shape trace preprocessed public_values start none
