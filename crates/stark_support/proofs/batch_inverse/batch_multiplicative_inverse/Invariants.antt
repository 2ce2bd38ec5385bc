use Rattle.std.proofs.Common.{◌≡◌, map, take, drop}
use Rattle.stark_support.specs.Products.{list_product}
use Rattle.stark_support.proofs.batch_inverse.batch_multiplicative_inverse.Given as goal

abbrev pub invariant-loop-index : goal.invariant-loop-index
invariant-loop-index g l =
    (l.inverses.items ≡ take l.index (map g.F.Field.inverse_of l.values)) × (g.F.Field.ring.mul l.inverse (list_product g.F.Field.ring (drop l.index l.values)) ≡ g.F.Field.ring.one)
