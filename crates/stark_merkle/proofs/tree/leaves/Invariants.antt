use Rattle.std.proofs.Common.{◌≡◌, ◌+◌, ◌*◌, map, take}
use Rattle.stark_merkle.specs.Tree.{items_of}
use Rattle.stark_merkle.proofs.tree.leaves.Given as goal

abbrev pub invariant-loop-group : goal.invariant-loop-group
invariant-loop-group g l =
    l.leaves.items ≡ map g.H.TreeHash.digests.leaf (map items_of (take (8 * l.group) l.rows))

abbrev pub invariant-loop-j : goal.invariant-loop-j
invariant-loop-j g l =
    l.leaves.items ≡ map g.H.TreeHash.digests.leaf (map items_of (take (8 * l.group + l.j) l.rows))

abbrev pub invariant-loop-i : goal.invariant-loop-i
invariant-loop-i g l =
    l.leaves.items ≡ map g.H.TreeHash.digests.leaf (map items_of (take l.i l.rows))
