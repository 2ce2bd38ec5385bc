use Rattle.std.proofs.Common.{rules}
use Rattle.stark_bench.proofs.challenger.commitment.ClearCommitment.new.Goals as goal

pub returns : goal.returns
returns g c = search rules
