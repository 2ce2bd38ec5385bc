use Rattle.stark_fields.proofs.LaneFacts.{lesser_are_remainders, remainders_four, remainders_below}
use Rattle.stark_fields.proofs.lanes.arithmetic.reduced_once.Goals as goal

pub invariant_of-result : goal.invariant_of-result
invariant_of-result g c = let e = lesser_are_remainders c.args.numbers c.requires.four c.requires.below in record { four = remainders_four _ _ e c.requires.four; in_range = remainders_below _ _ e }

pub returns : goal.returns
returns g c = lesser_are_remainders c.args.numbers c.requires.four c.requires.below
