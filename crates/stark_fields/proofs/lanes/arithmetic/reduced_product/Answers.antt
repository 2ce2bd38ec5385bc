use Rattle.std.proofs.Common.{◌∙◌}
use Rattle.stark_fields.proofs.lanes.arithmetic.reduced_product.Goals as goal

pub reduced_once-requires-clause-four : goal.reduced_once-requires-clause-four
reduced_once-requires-clause-four g c = c.nearly_reduced_product.ensures.four

pub reduced_once-requires-clause-below : goal.reduced_once-requires-clause-below
reduced_once-requires-clause-below g c = c.nearly_reduced_product.ensures.below

pub returns : goal.returns
returns g c = c.reduced_once.ensures ∙ c.nearly_reduced_product.ensures.same
