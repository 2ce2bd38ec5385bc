use Rattle.std.proofs.Common.{rules}
use Rattle.stark_bench.proofs.challenger.commitment.ClearCommitment.matrices.Goals as goal

pub returns : goal.returns
returns g c = search rules
