use Rattle.std.proofs.Common.{◌+◌, ◌-◌}
use Rattle.stark_lookup_extension.specs.Leaves.{leaf_tree}
use Rattle.stark_lookup_extension.specs.Written.{StandsAt}
use Rattle.stark_lookup_air.specs.LookupConstraints.{from_place}
use Rattle.stark_lookup_extension.proofs.LeafSteps.{LeavesSoFar}
use Rattle.stark_lookup_extension.proofs.leaves.leaves.Given as goal

abbrev pub invariant-loop-index : goal.invariant-loop-index
invariant-loop-index g l = LeavesSoFar StandsAt l.leaf (l.first + l.count) (from_place (leaf_tree l.leaf) l.index ((l.first + l.count) - l.index)) (from_place (leaf_tree l.leaf) l.first l.count) l.fn.list l.all.items l.list
