use Rattle.std.proofs.Common.{rules}
use Rattle.stark_fields.proofs.extension_lanes.arithmetic.fourth_power.Goals as goal

pub returns : goal.returns
returns g c = search rules
