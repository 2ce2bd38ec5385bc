use Rattle.stark_fields.proofs.LaneFacts.{products_fit_in, products_are_of}
use Rattle.stark_fields.proofs.lanes.arithmetic.products.Goals as goal

pub overflow_mul-result : goal.overflow_mul-result
overflow_mul-result g c = products_fit_in c.args.x c.args.y _ _ c.short_numbers.ensures c.short_numbers-2.ensures

pub returns : goal.returns
returns g c = products_are_of c.args.x c.args.y _ _ c.short_numbers.ensures c.short_numbers-2.ensures
