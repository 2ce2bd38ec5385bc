use Rattle.std.proofs.Common.{rules}
use Rattle.stark_fields.proofs.LaneFacts.{sum_is}
use Rattle.stark_fields.proofs.lanes.arithmetic.LanesAdd.add.Goals as goal

pub returns : goal.returns
returns g c = search (rules, sum_is)
