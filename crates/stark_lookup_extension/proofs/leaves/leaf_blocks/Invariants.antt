use Rattle.std.proofs.Common.{◌≡◌, ◌+◌, ◌-◌, ◌*◌, length}
use Rattle.stark_lookup_extension.specs.Leaves.{leaf_tree}
use Rattle.stark_lookup_air.specs.LookupConstraints.{blocks_from}
use Rattle.stark_lookup_extension.proofs.LeafSteps.{LeavesSoFar}
use Rattle.stark_lookup_extension.proofs.ListSteps.{Row}
use Rattle.stark_lookup_extension.proofs.leaves.leaf_blocks.Given as goal

abbrev pub invariant-loop-index : goal.invariant-loop-index
invariant-loop-index g l = LeavesSoFar Row l.leaf (l.first + l.count * l.size) (blocks_from (leaf_tree l.leaf) (l.first + l.index * l.size) l.size (l.count - l.index)) (blocks_from (leaf_tree l.leaf) l.first l.size l.count) l.fn.list l.all.items l.list
    × (length l.all.items ≡ l.index)
