use Rattle.std.proofs.Common.{lit<, refl}
use Rattle.stark_fields.proofs.LaneFacts.{adds_fit, products_at_most}
use Rattle.stark_fields.proofs.lanes.arithmetic.plus_products.Goals as goal

pub overflow_add-result : goal.overflow_add-result
overflow_add-result g c = adds_fit 150994944 603992064 _ _ _ _ c.products.ensures refl (products_at_most c.args.first.0 c.args.first.1) c.requires (lit< tt)
