use Rattle.std.proofs.Common.{◌≡◌, ◌-◌, length, drop}
use Rattle.stark_support.specs.Products.{AreRests, list_product}
use Rattle.stark_support.proofs.batch_inverse.products_behind.Given as goal

abbrev pub invariant-loop-count : goal.invariant-loop-count
invariant-loop-count g l =
    (l.product ≡ list_product g.F.Field.ring (drop (length l.values - l.count) l.values)) × AreRests g.F.Field.ring l.values l.count l.rests.items
