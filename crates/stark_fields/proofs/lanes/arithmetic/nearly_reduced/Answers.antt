use Rattle.stark_fields.proofs.LaneFacts.{rests_four, rests_below, rests_same}
use Rattle.stark_fields.proofs.lanes.arithmetic.nearly_reduced.Goals as goal

pub returns-clause-four : goal.returns-clause-four
returns-clause-four c = rests_four 43687 16 c.args.numbers c.requires.four

pub returns-clause-below : goal.returns-clause-below
returns-clause-below c = rests_below c.args.numbers c.requires.four c.requires.below

pub returns-clause-same : goal.returns-clause-same
returns-clause-same c = rests_same c.args.numbers c.requires.four c.requires.below
