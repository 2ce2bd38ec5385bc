use Rattle.std.proofs.Common.{◌∙◌, ap, subst, sym}
use Rattle.stark_fields.specs.ResidueLanes.{number_remainders}
use Rattle.stark_fields.proofs.LaneFacts.{AtMost, two_below, products_stand, sums_stand, is_standing}
use Rattle.stark_fields.proofs.lanes.arithmetic.two_products.Goals as goal

pub reduced-requires-clause-below : goal.reduced-requires-clause-below
reduced-requires-clause-below g c = subst (AtMost 754987008) (sym c.sums_of_products.ensures) (two_below c.args.first.0 c.args.first.1 c.args.second.0 c.args.second.1)

pub returns : goal.returns
returns g c =
    is_standing _ _ c.reduced.result
    (sums_stand _ _ _ _ (products_stand c.args.first.0 c.args.first.1) (products_stand c.args.second.0 c.args.second.1))
    (c.reduced.ensures ∙ ap number_remainders c.sums_of_products.ensures)
