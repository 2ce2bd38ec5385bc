use Rattle.std.proofs.Common.{map}
use Rattle.stark_air.specs.Tree.{constant}
use Rattle.stark_lookup_extension.proofs.LeafSteps.{KnownSoFar}
use Rattle.stark_lookup_extension.proofs.ListSteps.{Row}
use Rattle.stark_lookup_extension.proofs.leaves.product_row.Given as goal

abbrev pub invariant-loop-index : goal.invariant-loop-index
invariant-loop-index g l = KnownSoFar Row (λ y. map constant (g.EF.ExtensionField.coordinates (g.EF.Field.ring.mul l.x y))) l.fn.list g.EF.ExtensionField.basis l.index l.all.items l.list
