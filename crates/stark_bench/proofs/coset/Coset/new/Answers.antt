use Rattle.std.proofs.Common.{rules}
use Rattle.stark_bench.proofs.coset.Coset.new.Goals as goal

pub returns : goal.returns
returns c = search rules
