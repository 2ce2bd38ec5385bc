use Rattle.std.proofs.Common.{arith}
use Rattle.stark_fields.proofs.LaneFacts.{is_standing, numbers_standing, one_more_standing}
use Rattle.stark_fields.proofs.lanes.arithmetic.one_term_more.Goals as goal

pub reduced-requires-clause-below : goal.reduced-requires-clause-below
reduced-requires-clause-below g c =
    let one = one_more_standing 12288 c.args.first.0 c.args.first.1 _ _ _ (numbers_standing c.args.rest) c.plus_products.ensures in
    λ j. omega (arith, one.at_most j)

pub returns : goal.returns
returns g c =
    let one = one_more_standing 12288 c.args.first.0 c.args.first.1 _ _ _ (numbers_standing c.args.rest) c.plus_products.ensures in
    is_standing _ _ c.reduced.result one.stand c.reduced.ensures
