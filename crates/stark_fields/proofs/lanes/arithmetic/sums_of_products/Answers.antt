use Rattle.std.proofs.Common.{lit<}
use Rattle.stark_fields.proofs.LaneFacts.{adds_fit, products_at_most}
use Rattle.stark_fields.proofs.lanes.arithmetic.sums_of_products.Goals as goal

pub overflow_add-result : goal.overflow_add-result
overflow_add-result g c =
    adds_fit 150994944 150994944 _ _ _ _ c.products.ensures c.products-2.ensures (products_at_most c.args.first.0 c.args.first.1) (products_at_most c.args.second.0 c.args.second.1) (lit< tt)
