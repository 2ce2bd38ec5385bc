use Rattle.std.proofs.Common.{rules}
use Rattle.stark_transcript.proofs.shape.StarkShape.pattern.Goals as goal

pub returns : goal.returns
returns g c = search rules
