use Rattle.std.proofs.Common.{◌≡◌, ◌≤◌, length, drop}
use Rattle.stark_support.specs.Interpolation.{interpolation, polynomial_with_roots}
use Rattle.stark_support.proofs.interpolation.interpolate.Given as goal

abbrev pub invariant-loop-index : goal.invariant-loop-index
invariant-loop-index g l =
    (l.index ≤ length l.points)
    × (l.polynomial.items ≡ interpolation g.F.Field.ring g.F.Field.inverse_of (drop l.index l.points) (drop l.index l.values))
    × (l.product.items ≡ polynomial_with_roots g.F.Field.ring (drop l.index l.points))

abbrev pub decreases-loop-index : goal.decreases-loop-index
decreases-loop-index g l = l.index
