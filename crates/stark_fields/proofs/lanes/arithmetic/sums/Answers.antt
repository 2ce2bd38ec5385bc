use Rattle.stark_fields.proofs.LaneFacts.{sums_fit, sums_are}
use Rattle.stark_fields.proofs.lanes.arithmetic.sums.Goals as goal

pub overflow_add-result : goal.overflow_add-result
overflow_add-result g c = sums_fit c.args.x c.args.y

pub returns : goal.returns
returns g c = sums_are c.args.x c.args.y
