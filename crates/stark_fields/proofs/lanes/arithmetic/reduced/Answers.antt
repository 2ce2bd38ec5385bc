use Rattle.std.proofs.Common.{◌∙◌}
use Rattle.stark_fields.proofs.lanes.arithmetic.reduced.Goals as goal

pub returns : goal.returns
returns g c = c.reduced_once.ensures ∙ c.nearly_reduced.ensures.same
