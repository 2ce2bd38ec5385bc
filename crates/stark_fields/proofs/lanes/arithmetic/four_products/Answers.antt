use Rattle.std.proofs.Common.{◌∙◌, ap, length, lit<, subst, sym}
use Rattle.stark_fields.specs.ResidueLanes.{number_remainders}
use Rattle.stark_fields.proofs.LaneFacts.{AtMost, adds_fit, added_same, two_at_most, four_below, four_stand, four_stand_middle, is_standing}
use Rattle.stark_fields.proofs.lanes.arithmetic.four_products.Goals as goal

pub overflow_add-sums_of_products : goal.overflow_add-sums_of_products
overflow_add-sums_of_products g c =
    adds_fit 301989888 301989888 _ _ _ _ c.sums_of_products.ensures c.sums_of_products-2.ensures
    (two_at_most c.args.first.0 c.args.first.1 c.args.second.0 c.args.second.1) (two_at_most c.args.third.0 c.args.third.1 c.args.fourth.0 c.args.fourth.1) (lit< tt)

pub reduced-requires-clause-four : goal.reduced-requires-clause-four
reduced-requires-clause-four g c =
    ap length (added_same c.sums_of_products.ensures c.sums_of_products-2.ensures)
    ∙ (four_stand c.args.first.0 c.args.first.1 c.args.second.0 c.args.second.1 c.args.third.0 c.args.third.1 c.args.fourth.0 c.args.fourth.1).0

pub reduced-requires-clause-below : goal.reduced-requires-clause-below
reduced-requires-clause-below g c =
    subst (AtMost 754987008) (sym (added_same c.sums_of_products.ensures c.sums_of_products-2.ensures))
    (four_below c.args.first.0 c.args.first.1 c.args.second.0 c.args.second.1 c.args.third.0 c.args.third.1 c.args.fourth.0 c.args.fourth.1)

pub returns-clause-in_pairs : goal.returns-clause-in_pairs
returns-clause-in_pairs g c =
    is_standing _ _ c.reduced.result (four_stand c.args.first.0 c.args.first.1 c.args.second.0 c.args.second.1 c.args.third.0 c.args.third.1 c.args.fourth.0 c.args.fourth.1)
    (c.reduced.ensures ∙ ap number_remainders (added_same c.sums_of_products.ensures c.sums_of_products-2.ensures))

pub returns-clause-middle_first : goal.returns-clause-middle_first
returns-clause-middle_first g c =
    is_standing _ _ c.reduced.result (four_stand_middle c.args.first.0 c.args.first.1 c.args.second.0 c.args.second.1 c.args.third.0 c.args.third.1 c.args.fourth.0 c.args.fourth.1)
    (c.reduced.ensures ∙ ap number_remainders (added_same c.sums_of_products.ensures c.sums_of_products-2.ensures))
