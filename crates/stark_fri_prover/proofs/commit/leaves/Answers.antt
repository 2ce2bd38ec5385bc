use Rattle.std.proofs.Common.{◌∙◌, ap, arith}
use Rattle.stark_merkle.specs.Bytes.{element_bytes}
use Rattle.stark_fri_prover.specs.Commit.{leaf_at}
use Rattle.stark_fri_prover.proofs.Steps.{lane_more, place_more}
use Rattle.stark_fri_prover.proofs.commit.leaves.Goals as goal

pub loop-j-preserved : goal.loop-j-preserved
loop-j-preserved g c =
    lane_more (leaf_at g.H.TreeHash.digests (element_bytes g.F.PrimeField64.BYTES g.F.PrimeField64.number_of) c.args.extended.now) c.loop-group.group c.loop-j.j _ c.loop-j.leaves.items _
    c.in_ok-push.ensures.items c.loop-j.invariant (c.in_ok-eight.ensures c.loop-j.j (omega arith))

pub loop-place-preserved : goal.loop-place-preserved
loop-place-preserved g c =
    let hash = g.H.TreeHash.digests in
    let leaf = leaf_at hash (element_bytes g.F.PrimeField64.BYTES g.F.PrimeField64.number_of) c.args.extended.now in
    place_more leaf c.loop-place.place c.leaf.result c.loop-place.leaves.items _ c.in_ok-push-2.ensures.items
    c.loop-place.invariant (c.leaf.ensures ∙ ap hash.leaf (c.deref.ensures.value ∙ c.in_ok-write_rows_at.ensures))
