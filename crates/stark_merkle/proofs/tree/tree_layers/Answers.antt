use Rattle.std.proofs.Common.{◌∙◌, ap, arith, map}
use Rattle.std.proofs.lemmas.List.{map-append}
use Rattle.stark_merkle.specs.Tree.{items_of, paired}
use Rattle.stark_merkle.proofs.Steps.{layers_all, layers_more}
use Rattle.stark_merkle.proofs.tree.tree_layers.Goals as goal

pub loop-level-preserved : goal.loop-level-preserved
loop-level-preserved g c =
    let pushed = ap (λ t. map items_of t) c.in_ok-push.ensures.items ∙ map-append _ _ _ in
    layers_more g.H.TreeHash.digests.node c.args.depth c.loop-level._level c.loop-level.layer.items c.in_ok-above.above.items (map items_of c.loop-level.layers.items) _ _
    (omega arith) (c.in_ok-above.ensures ∙ ap (paired g.H.TreeHash.digests.node) c.deref.ensures.value) pushed c.loop-level.invariant

pub returns : goal.returns
returns g c =
    let pushed = ap (λ t. map items_of t) c.in_ok-push-2.ensures.items ∙ map-append _ _ _ in
    layers_all g.H.TreeHash.digests.node c.args.depth c.loop-level._level c.loop-level.layer.items (map items_of c.loop-level.layers.items) _ _
    (omega arith) pushed c.loop-level.invariant
