use Rattle.stark_show.proofs.Passes.{DegreesBegun}
use Rattle.stark_show.proofs.degrees.node_degrees.Given as goal

abbrev pub invariant-loop-node : goal.invariant-loop-node
invariant-loop-node l = DegreesBegun l.nodes l.node-index l.degrees.items
