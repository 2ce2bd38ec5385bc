use Rattle.stark_fields.proofs.LaneFacts.{complements_fit, complements_are}
use Rattle.stark_fields.proofs.lanes.arithmetic.complements.Goals as goal

pub overflow_sub-result : goal.overflow_sub-result
overflow_sub-result g c = complements_fit c.args.x

pub returns : goal.returns
returns g c = complements_are c.args.x
