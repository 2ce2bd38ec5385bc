use Rattle.stark_air.proofs.Steps.{shown_read}
use Rattle.stark_air.proofs.leaves.public_value.Goals as goal

pub returns : goal.returns
returns g c = shown_read _ _ _ _ _ c.args.index _ _ c.public_values.ensures c.requires c.index-public_values-index.is c.into.ensures
