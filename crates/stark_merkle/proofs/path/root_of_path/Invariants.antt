use Rattle.std.proofs.Common.{◌≡◌, drop}
use Rattle.stark_merkle.specs.Tree.{led}
use Rattle.stark_merkle.proofs.path.root_of_path.Given as goal

-- What is left of the path leads from here where all of it leads from the start.
abbrev pub invariant-loop-beside : goal.invariant-loop-beside
invariant-loop-beside g l =
    led g.H.TreeHash.digests.node l.place l.digest (drop l.beside-index l.path) ≡ led g.H.TreeHash.digests.node l.index l.fn.start l.path
