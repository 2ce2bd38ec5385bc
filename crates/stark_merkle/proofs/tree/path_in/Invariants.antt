use Rattle.stark_merkle.specs.Tree.{digests_in}
use Rattle.stark_merkle.proofs.Steps.{IsPathSoFar, IsReadFrom}
use Rattle.stark_merkle.proofs.tree.path_in.Given as goal

abbrev pub invariant-loop-level : goal.invariant-loop-level
invariant-loop-level l =
    IsPathSoFar (digests_in l.layers) l.index l.level l.place l.path.items × IsReadFrom (digests_in l.layers) l.index l.level l.place
