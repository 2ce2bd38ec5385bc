use Rattle.std.proofs.Common.{rules}
use Rattle.stark_transcript.proofs.transcript.verifier.StarkVerifierTranscript.ood_phase.Goals as goal

pub returns-in-Ok : goal.returns-in-Ok
returns-in-Ok g c = search rules

pub returns-in-Err : goal.returns-in-Err
returns-in-Err g c = search rules

pub returns-in-Some : goal.returns-in-Some
returns-in-Some g c = search rules
