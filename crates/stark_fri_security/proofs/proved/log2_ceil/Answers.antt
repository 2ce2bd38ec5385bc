use Rattle.std.proofs.Common.{arith, rules}
use Rattle.stark_support.specs.LogarithmFacts.{ceiling_between}
use Rattle.stark_fri_security.proofs.proved.log2_ceil.Goals as goal

pub returns-else-parts-eq1 : goal.returns-else-parts-eq1
returns-else-parts-eq1 c = ceiling_between c.ilog2.result c.args.parts (omega arith) (omega arith)

pub returns-then-parts-eq1 : goal.returns-then-parts-eq1
returns-then-parts-eq1 c = search rules
