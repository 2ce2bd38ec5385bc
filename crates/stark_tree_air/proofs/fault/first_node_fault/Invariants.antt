use Rattle.std.proofs.Common.{◌≡◌, drop}
use Rattle.stark_tree_air.specs.Faults.{counted_layout, first_node_fault}
use Rattle.stark_tree_air.proofs.fault.first_node_fault.Given as goal

abbrev pub invariant-loop-place : goal.invariant-loop-place
invariant-loop-place l = first_node_fault (counted_layout l.counts) l.counts.constants l.place (drop l.place l.nodes) ≡ first_node_fault (counted_layout l.counts) l.counts.constants 0 l.nodes
