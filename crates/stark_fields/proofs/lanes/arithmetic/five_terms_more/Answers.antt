use Rattle.std.proofs.Common.{arith}
use Rattle.stark_fields.proofs.LaneFacts.{is_standing, numbers_standing, one_more_standing}
use Rattle.stark_fields.proofs.lanes.arithmetic.five_terms_more.Goals as goal

pub plus_products-last_two-requires : goal.plus_products-last_two-requires
plus_products-last_two-requires g c =
    let one = one_more_standing 12288 c.args.fifth.0 c.args.fifth.1 _ _ _ (numbers_standing c.args.rest) c.plus_products-last.ensures in
    λ j. omega (arith, one.at_most j)

pub plus_products-last_three-requires : goal.plus_products-last_three-requires
plus_products-last_three-requires g c =
    let one = one_more_standing 12288 c.args.fifth.0 c.args.fifth.1 _ _ _ (numbers_standing c.args.rest) c.plus_products-last.ensures in
    let two = one_more_standing 151007232 c.args.fourth.0 c.args.fourth.1 _ _ _ one c.plus_products-last_two.ensures in
    λ j. omega (arith, two.at_most j)

pub plus_products-last_four-requires : goal.plus_products-last_four-requires
plus_products-last_four-requires g c =
    let one = one_more_standing 12288 c.args.fifth.0 c.args.fifth.1 _ _ _ (numbers_standing c.args.rest) c.plus_products-last.ensures in
    let two = one_more_standing 151007232 c.args.fourth.0 c.args.fourth.1 _ _ _ one c.plus_products-last_two.ensures in
    let three = one_more_standing 302002176 c.args.third.0 c.args.third.1 _ _ _ two c.plus_products-last_three.ensures in
    λ j. omega (arith, three.at_most j)

pub plus_products-requires : goal.plus_products-requires
plus_products-requires g c =
    let one = one_more_standing 12288 c.args.fifth.0 c.args.fifth.1 _ _ _ (numbers_standing c.args.rest) c.plus_products-last.ensures in
    let two = one_more_standing 151007232 c.args.fourth.0 c.args.fourth.1 _ _ _ one c.plus_products-last_two.ensures in
    let three = one_more_standing 302002176 c.args.third.0 c.args.third.1 _ _ _ two c.plus_products-last_three.ensures in
    let four = one_more_standing 452997120 c.args.second.0 c.args.second.1 _ _ _ three c.plus_products-last_four.ensures in
    λ j. omega (arith, four.at_most j)

pub reduced-requires-clause-below : goal.reduced-requires-clause-below
reduced-requires-clause-below g c =
    let one = one_more_standing 12288 c.args.fifth.0 c.args.fifth.1 _ _ _ (numbers_standing c.args.rest) c.plus_products-last.ensures in
    let two = one_more_standing 151007232 c.args.fourth.0 c.args.fourth.1 _ _ _ one c.plus_products-last_two.ensures in
    let three = one_more_standing 302002176 c.args.third.0 c.args.third.1 _ _ _ two c.plus_products-last_three.ensures in
    let four = one_more_standing 452997120 c.args.second.0 c.args.second.1 _ _ _ three c.plus_products-last_four.ensures in
    let five = one_more_standing 603992064 c.args.first.0 c.args.first.1 _ _ _ four c.plus_products.ensures in
    λ j. omega (arith, five.at_most j)

pub returns : goal.returns
returns g c =
    let one = one_more_standing 12288 c.args.fifth.0 c.args.fifth.1 _ _ _ (numbers_standing c.args.rest) c.plus_products-last.ensures in
    let two = one_more_standing 151007232 c.args.fourth.0 c.args.fourth.1 _ _ _ one c.plus_products-last_two.ensures in
    let three = one_more_standing 302002176 c.args.third.0 c.args.third.1 _ _ _ two c.plus_products-last_three.ensures in
    let four = one_more_standing 452997120 c.args.second.0 c.args.second.1 _ _ _ three c.plus_products-last_four.ensures in
    let five = one_more_standing 603992064 c.args.first.0 c.args.first.1 _ _ _ four c.plus_products.ensures in
    is_standing _ _ c.reduced.result five.stand c.reduced.ensures
