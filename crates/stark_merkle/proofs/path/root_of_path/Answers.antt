use Rattle.std.proofs.Common.{◌∙◌, arith}
use Rattle.stark_merkle.proofs.Steps.{joined_even, joined_odd, led_all, led_more}
use Rattle.stark_merkle.proofs.path.root_of_path.Goals as goal
use Rattle.stark_merkle.proofs.path.root_of_path.Goals.{then-place-eq0, else-place-eq0}

pub loop-beside-preserved : goal.loop-beside-preserved
loop-beside-preserved g c =
    let node = g.H.TreeHash.digests.node in
    let more = led_more node c.loop-beside.place c.loop-beside.digest c.if-place-eq0.digest c.args.path.now c.loop-beside.beside-index _ _ c.loop-beside-test.true in
    elim c.if-place-eq0.branch [
      | then-place-eq0 w ↦ more (w.digest-is ∙ w.node-digest.ensures ∙ joined_even node c.loop-beside.place c.loop-beside.digest _ w.if-place-eq0.true) c.loop-beside.invariant
      | else-place-eq0 w ↦ more (w.digest-is ∙ w.node-digest-else-place-eq0.ensures ∙ joined_odd node c.loop-beside.place c.loop-beside.digest _ w.if-place-eq0.false) c.loop-beside.invariant
    ]

pub returns : goal.returns
returns g c = led_all g.H.TreeHash.digests.node c.loop-beside.place c.loop-beside.digest c.args.path.now c.loop-beside.beside-index _ (omega arith) c.loop-beside.invariant
