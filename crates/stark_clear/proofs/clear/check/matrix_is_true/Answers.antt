use Rattle.std.proofs.Common.{arith}
use Rattle.std.proofs.lemmas.Grind.{common_steps}
use Rattle.stark_clear.proofs.clear.check.matrix_is_true.Goals as goal

pub returns : goal.returns
returns g c = grind (arith, common_steps)

pub loop-point-preserved : goal.loop-point-preserved
loop-point-preserved g c = grind (arith, common_steps)
