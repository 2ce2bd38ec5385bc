use Rattle.std.proofs.Common.{◌≡◌, drop}
use Rattle.stark_tree_air.specs.Faults.{reads_preprocessed_next}
use Rattle.stark_tree_air.proofs.fault.reads_preprocessed_next.Given as goal

abbrev pub invariant-loop-node : goal.invariant-loop-node
invariant-loop-node l = reads_preprocessed_next (drop l.node-index l.nodes) ≡ reads_preprocessed_next l.nodes
