use Rattle.std.proofs.Common.{arith, rules}
use Rattle.stark_support.specs.LogarithmFacts.{ceiling_between}
use Rattle.stark_support.proofs.util.log2_ceil_usize.Goals as goal

pub returns-else-n-eq1 : goal.returns-else-n-eq1
returns-else-n-eq1 c = ceiling_between c.ilog2.result c.args.n (omega arith) (omega arith)

pub returns-then-n-eq1 : goal.returns-then-n-eq1
returns-then-n-eq1 c = search rules
