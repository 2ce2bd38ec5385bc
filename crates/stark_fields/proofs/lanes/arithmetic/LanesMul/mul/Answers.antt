use Rattle.std.proofs.Common.{rules}
use Rattle.stark_fields.proofs.LaneFacts.{product_is}
use Rattle.stark_fields.proofs.lanes.arithmetic.LanesMul.mul.Goals as goal

pub returns : goal.returns
returns g c = search (rules, product_is)
