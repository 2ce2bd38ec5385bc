use Rattle.std.proofs.Common.{rules}
use Rattle.stark_fields.proofs.LaneFacts.{opposite_is}
use Rattle.stark_fields.proofs.lanes.arithmetic.LanesNeg.neg.Goals as goal

pub returns : goal.returns
returns g c = search (rules, opposite_is)
