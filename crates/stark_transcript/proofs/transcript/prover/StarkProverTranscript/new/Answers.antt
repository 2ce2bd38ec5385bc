use Rattle.std.proofs.Common.{rules}
use Rattle.stark_transcript.proofs.transcript.prover.StarkProverTranscript.new.Goals as goal

pub returns : goal.returns
returns g c = search rules
