use Rattle.std.proofs.Common.{◌∙◌, ap, length, lit<, subst, sym}
use Rattle.stark_fields.specs.ResidueLanes.{number_remainders}
use Rattle.stark_fields.proofs.LaneFacts.{AtMost, adds_fit, added_same, products_at_most, two_at_most, three_below, three_stand, three_stand_last, is_standing}
use Rattle.stark_fields.proofs.lanes.arithmetic.three_products.Goals as goal

pub overflow_add-sums_of_products : goal.overflow_add-sums_of_products
overflow_add-sums_of_products g c =
    adds_fit 301989888 150994944 _ _ _ _ c.sums_of_products.ensures c.products.ensures
    (two_at_most c.args.first.0 c.args.first.1 c.args.second.0 c.args.second.1) (products_at_most c.args.third.0 c.args.third.1) (lit< tt)

pub reduced-requires-clause-four : goal.reduced-requires-clause-four
reduced-requires-clause-four g c =
    ap length (added_same c.sums_of_products.ensures c.products.ensures)
    ∙ (three_stand c.args.first.0 c.args.first.1 c.args.second.0 c.args.second.1 c.args.third.0 c.args.third.1).0

pub reduced-requires-clause-below : goal.reduced-requires-clause-below
reduced-requires-clause-below g c =
    subst (AtMost 754987008) (sym (added_same c.sums_of_products.ensures c.products.ensures))
    (three_below c.args.first.0 c.args.first.1 c.args.second.0 c.args.second.1 c.args.third.0 c.args.third.1)

pub returns-clause-first_two : goal.returns-clause-first_two
returns-clause-first_two g c =
    is_standing _ _ c.reduced.result (three_stand c.args.first.0 c.args.first.1 c.args.second.0 c.args.second.1 c.args.third.0 c.args.third.1)
    (c.reduced.ensures ∙ ap number_remainders (added_same c.sums_of_products.ensures c.products.ensures))

pub returns-clause-last_two : goal.returns-clause-last_two
returns-clause-last_two g c =
    is_standing _ _ c.reduced.result (three_stand_last c.args.first.0 c.args.first.1 c.args.second.0 c.args.second.1 c.args.third.0 c.args.third.1)
    (c.reduced.ensures ∙ ap number_remainders (added_same c.sums_of_products.ensures c.products.ensures))
