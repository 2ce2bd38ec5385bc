use Rattle.std.proofs.Common.{◌∙◌, List, ap, map, slice_index_or}
use Rattle.std.specs.Vec.{vec_items}
use Rattle.stark_prover_folder.specs.Finalized.{base_sums, lane_values, sum_of_products}
use Rattle.stark_prover_folder.proofs.prover_folder.ProverConstraintFolder.finalize_constraints.Goals as goal

pub returns : goal.returns
returns g c = λ i within.
    let base = g.SC.Pcs.Domain.Val.Field in
    let ring = g.SC.Challenge.Field.ring in
    let field = g.SC.Challenge.ExtensionField in
    let zero_above = g.SC.Challenge.Field.ZERO in
    let lanes = g.SC.Pcs.Domain.Val.Packing.PackedValue.lanes in
    let lanes_above = g.SC.Challenge.ExtensionPacking.PackedValue.lanes in
    let folder = c.args.self.now in
    let sums = λ (values : List g.row.SC-Pcs-Domain-Val-Packing.Denot). base_sums base.ring base.ZERO ring field.embed field.basis (map vec_items folder.base_alpha_powers.now) (lane_values lanes i base.ring.zero values) in
    let powers = folder.ext_alpha_powers.now in
    c.plus_base_sums.ensures i within ∙
    ap (λ vs. ring.add (sums vs) (slice_index_or (lanes_above c.packed_sum-sum.result) i ring.zero)) c.as_slice-2.ensures.value ∙
    ap (ring.add (sums folder.base_constraints.items))
    (c.packed_sum-sum.ensures i within ∙
    ap (λ r. sum_of_products r zero_above (lane_values lanes_above i ring.zero c.as_slice.result.now) powers) g.met.SC.Challenge.PackedExtensionField.extension_packed_ring ∙
    ap (λ vs. sum_of_products ring zero_above (lane_values lanes_above i ring.zero vs) powers) c.as_slice.ensures.value)
