use Rattle.stark_fields.proofs.LaneFacts.{short_are}
use Rattle.stark_fields.proofs.lanes.arithmetic.short_numbers.Goals as goal

pub returns : goal.returns
returns g c = short_are c.args.x
