use Rattle.std.proofs.Common.{◌≡◌, ◌+◌, ◌*◌, arith, refl}
use Rattle.stark_merkle.proofs.Steps.{paired_all, paired_more}
use Rattle.stark_merkle.proofs.tree.next_layer.Goals as goal

pub loop-j-preserved : goal.loop-j-preserved
loop-j-preserved g c =
    let node = g.H.TreeHash.digests.node in
    let place = 8 * c.loop-group.group + c.loop-j.j in
    let next : 8 * c.loop-group.group + (c.loop-j.j + 1) ≡ place + 1 = omega arith in
    rw next (paired_more node c.args.layer.now place _ _ _ _ c.loop-j.above.items _ _ (omega arith)
    refl refl (c.nodes_over-nodes.ensures c.loop-j.j (omega arith)) c.in_ok-push.ensures.items c.loop-j.invariant)

pub loop-i-preserved : goal.loop-i-preserved
loop-i-preserved g c =
    let node = g.H.TreeHash.digests.node in
    let below = c.loop-i-test.true in
    paired_more node c.args.layer.now c.loop-i.i _ _ _ c.node.result c.loop-i.above.items _ _ (omega arith)
    refl refl c.node.ensures c.in_ok-push-2.ensures.items c.loop-i.invariant

pub returns : goal.returns
returns g c =
    let node = g.H.TreeHash.digests.node in
    paired_all node c.args.layer.now c.loop-i.i c.loop-i.above.items _ (omega arith) c.loop-i.invariant
