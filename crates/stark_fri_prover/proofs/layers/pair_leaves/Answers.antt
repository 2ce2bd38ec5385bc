use Rattle.std.proofs.Common.{◌∙◌, ◌/◌, ap, arith, length}
use Rattle.stark_merkle.specs.Bytes.{element_bytes}
use Rattle.stark_fri_prover.specs.Layers.{pair_leaf}
use Rattle.stark_fri_prover.proofs.Steps.{lane_more, place_more}
use Rattle.stark_fri_prover.proofs.layers.pair_leaves.Goals as goal

pub loop-j-preserved : goal.loop-j-preserved
loop-j-preserved g c =
    let hash = g.H.TreeHash.digests in
    let leaf = pair_leaf (element_bytes g.F.PrimeField64.BYTES g.F.PrimeField64.number_of) g.EF.ExtensionField.coordinates g.EF.Field.ring.zero hash c.args.values.now (length c.args.values.now / 2) in
    lane_more leaf c.loop-group.group c.loop-j.j _ c.loop-j.leaves.items _ c.in_ok-push.ensures.items c.loop-j.invariant (c.in_ok-eight.ensures c.loop-j.j (omega arith))

pub loop-place-preserved : goal.loop-place-preserved
loop-place-preserved g c =
    let hash = g.H.TreeHash.digests in
    let leaf = pair_leaf (element_bytes g.F.PrimeField64.BYTES g.F.PrimeField64.number_of) g.EF.ExtensionField.coordinates g.EF.Field.ring.zero hash c.args.values.now (length c.args.values.now / 2) in
    place_more leaf c.loop-place.place c.leaf.result c.loop-place.leaves.items _ c.in_ok-push-2.ensures.items
    c.loop-place.invariant (c.leaf.ensures ∙ ap hash.leaf (c.deref.ensures.value ∙ c.in_ok-write_pair_at.ensures))
