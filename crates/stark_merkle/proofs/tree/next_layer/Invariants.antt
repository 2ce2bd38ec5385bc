use Rattle.std.proofs.Common.{◌≡◌, ◌+◌, ◌*◌, ◌++◌, drop}
use Rattle.stark_merkle.specs.Tree.{paired}
use Rattle.stark_merkle.proofs.tree.next_layer.Given as goal

abbrev pub invariant-loop-group : goal.invariant-loop-group
invariant-loop-group g l =
    let node = g.H.TreeHash.digests.node in
    l.above.items ++ paired node (drop (2 * (8 * l.group)) l.layer) ≡ paired node l.layer

abbrev pub invariant-loop-j : goal.invariant-loop-j
invariant-loop-j g l =
    let node = g.H.TreeHash.digests.node in
    l.above.items ++ paired node (drop (2 * (8 * l.group + l.j)) l.layer) ≡ paired node l.layer

abbrev pub invariant-loop-i : goal.invariant-loop-i
invariant-loop-i g l =
    let node = g.H.TreeHash.digests.node in
    l.above.items ++ paired node (drop (2 * l.i) l.layer) ≡ paired node l.layer
