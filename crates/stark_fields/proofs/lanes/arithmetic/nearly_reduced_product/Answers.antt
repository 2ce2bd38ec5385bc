use Rattle.stark_fields.proofs.LaneFacts.{rests_four, product_rests_below, product_rests_same}
use Rattle.stark_fields.proofs.lanes.arithmetic.nearly_reduced_product.Goals as goal

pub returns-clause-four : goal.returns-clause-four
returns-clause-four c = rests_four 21843 15 c.args.numbers c.requires.four

pub returns-clause-below : goal.returns-clause-below
returns-clause-below c = product_rests_below c.args.numbers c.requires.four c.requires.below

pub returns-clause-same : goal.returns-clause-same
returns-clause-same c = product_rests_same c.args.numbers c.requires.four c.requires.below
