use Rattle.std.proofs.Common.{arith}
use Rattle.std.proofs.lemmas.Grind.{common_steps}
use Rattle.stark_fields.proofs.lanes.arithmetic.LanesPackedValue.extract.Goals as goal

pub returns : goal.returns
returns g c = grind (arith, common_steps)
