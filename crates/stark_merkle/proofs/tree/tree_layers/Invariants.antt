use Rattle.std.proofs.Common.{◌≡◌, ◌-◌, ◌++◌, map}
use Rattle.stark_merkle.specs.Tree.{items_of, layers_from}
use Rattle.stark_merkle.proofs.tree.tree_layers.Given as goal

abbrev pub invariant-loop-level : goal.invariant-loop-level
invariant-loop-level g l =
    map items_of l.layers.items ++ layers_from g.H.TreeHash.digests.node (l.depth - l._level) l.layer.items ≡ layers_from g.H.TreeHash.digests.node l.depth l.fn.leaves.items
