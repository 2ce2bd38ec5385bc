use Rattle.std.proofs.Common.{◌≡◌, drop}
use Rattle.stark_tree_air.specs.Needed.{mark_nodes}
use Rattle.stark_tree_air.proofs.needed.mark_nodes.Given as goal

abbrev pub invariant-loop-place : goal.invariant-loop-place
invariant-loop-place l = l.marks ≡ mark_nodes l.fn.marks l.place (drop l.place l.nodes)
