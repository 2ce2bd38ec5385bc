use Rattle.std.proofs.Common.{◌≡◌, ◌<◌, ◌≤◌, ℕ, drop, map, slice_index_or}
use Rattle.std.specs.Vec.{vec_items}
use Rattle.stark_prover_folder.specs.Finalized.{lane_values, sum_of_products}
use Rattle.stark_prover_folder.proofs.FinalizedSteps.{onto}
use Rattle.stark_prover_folder.proofs.prover_folder.plus_base_sums.Given as goal

abbrev pub invariant-loop-index : goal.invariant-loop-index
invariant-loop-index g l =
    let base = g.SC.Pcs.Domain.Val.Field in
    let packed = g.SC.Pcs.Domain.Val.Packing.PackedValue in
    let above = g.SC.Challenge.ExtensionPacking.PackedValue in
    let ring = g.SC.Challenge.Field.ring in
    let field = g.SC.Challenge.ExtensionField in
    (l.index ≤ field.DIMENSION)
    × ((i : ℕ) → i < above.WIDTH → slice_index_or (above.lanes l.sum) i ring.zero
    ≡ onto ring (slice_index_or (above.lanes l.fn.rest) i ring.zero) (drop l.index field.basis)
    (drop l.index (map (λ row. field.embed (sum_of_products base.ring base.ZERO (lane_values packed.lanes i base.ring.zero l.fn.values) row)) (map vec_items l.fn.powers))))

abbrev pub decreases-loop-index : goal.decreases-loop-index
decreases-loop-index g l = l.index
