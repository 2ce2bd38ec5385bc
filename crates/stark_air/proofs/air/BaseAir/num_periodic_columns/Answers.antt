use Rattle.std.proofs.Common.{arith}
use Rattle.std.proofs.lemmas.Grind.{common_steps}
use Rattle.stark_air.proofs.air.BaseAir.num_periodic_columns.Goals as goal

pub returns : goal.returns
returns g c = grind (arith, common_steps)
