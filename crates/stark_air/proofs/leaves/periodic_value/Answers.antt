use Rattle.stark_air.proofs.Steps.{shown_read}
use Rattle.stark_air.proofs.leaves.periodic_value.Goals as goal

pub returns : goal.returns
returns g c = shown_read _ _ _ _ _ c.args.column _ _ c.periodic_values.ensures c.requires c.index-periodic_values-column.is c.into.ensures
