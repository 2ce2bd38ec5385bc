use Rattle.stark_merkle.proofs.Steps.{sole_is, sole_is_not}
use Rattle.stark_merkle.proofs.tree.sole.Goals as goal

pub returns-then-layer-eq1 : goal.returns-then-layer-eq1
returns-then-layer-eq1 c = sole_is c.args.layer.now _ c.if-layer-eq1.true

pub returns-else-layer-eq1 : goal.returns-else-layer-eq1
returns-else-layer-eq1 c = sole_is_not c.args.layer.now c.if-layer-eq1.false
