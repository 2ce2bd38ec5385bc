use Rattle.std.proofs.Common.{◌+◌, ◌-◌, ◌*◌, arith, length}
use Rattle.stark_merkle.proofs.Steps.{leaf_more}
use Rattle.stark_merkle.proofs.tree.leaves.Goals as goal

pub loop-j-preserved : goal.loop-j-preserved
loop-j-preserved g c =
    let rows = c.args.rows.now in
    let at = 8 * c.loop-group.group in
    let turn = c.loop-group-test.true in
    let low = c.loop-j-test.true in
    leaf_more g.H.TreeHash.digests.leaf rows at c.loop-j.j (length rows - at) _ c.loop-j.leaves.items _ (omega (arith, turn, low)) (omega (arith, turn, low))
    (c.first_eight_leaves-eight.ensures c.loop-j.j low) c.in_ok-push.ensures.items c.loop-j.invariant
