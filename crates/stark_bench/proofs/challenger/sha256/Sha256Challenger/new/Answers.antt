use Rattle.std.proofs.Common.{rules}
use Rattle.stark_bench.proofs.challenger.sha256.Sha256Challenger.new.Goals as goal

pub returns : goal.returns
returns g c = search rules
