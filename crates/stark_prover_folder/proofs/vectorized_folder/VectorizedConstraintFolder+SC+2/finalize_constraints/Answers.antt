use Rattle.std.proofs.Common.{◌∙◌, ◌-◌, List, ap, arith, map, slice_index_or, sym}
use Rattle.std.specs.Vec.{vec_items}
use Rattle.stark_support.specs.Pairs.{both_lanes, pack_at}
use Rattle.stark_support.specs.declared.vectorized.OfExtension.{OfExtension}
use Rattle.stark_prover_folder.specs.Finalized.{base_sums, lane_values, sum_of_products}
use Rattle.stark_prover_folder.proofs.PairSteps.{first_lane, first_lanes, in_both, second_lane, second_lanes}
use Rattle.stark_prover_folder.proofs.vectorized_folder.VectorizedConstraintFolder+SC+2.finalize_constraints.Goals as goal

pub returns : goal.returns
returns g c = λ i within.
    let base = g.SC.Pcs.Domain.Val.Field in
    let ring = g.SC.Challenge.Field.ring in
    let field = g.SC.Challenge.ExtensionField in
    let zero = base.ring.zero in
    let lanes = g.SC.Pcs.Domain.Val.Packing.PackedValue.lanes in
    let lanes_above = g.SC.Challenge.ExtensionPacking.PackedValue.lanes in
    let width = g.SC.Challenge.ExtensionPacking.PackedValue.WIDTH in
    let wide = g.met.SC.Challenge.PackedExtensionField.packed_as_wide in
    let many_above = g.met.SC.Challenge.ExtensionPacking.PackedValue.lane_by_lane.as_many in
    let many = λ (x : g.row.SC-Pcs-Domain-Val-Packing.Denot). g.met.SC.Pcs.Domain.Val.Packing.PackedValue.lane_by_lane.as_many x ∙ sym wide in
    let folder = c.args.self.now in
    let values = folder.base_constraints.items in
    let sum = c.packed_sum-sum.result in
    let sums = λ (vs : List g.row.SC-Pcs-Domain-Val.Denot). base_sums base.ring base.ZERO ring field.embed field.basis (map vec_items folder.base_alpha_powers.now) vs in
    let start = c.packed_sum-sum.ensures i within
    ∙ ap (λ r. sum_of_products r g.SC.Challenge.Field.ZERO (lane_values (both_lanes lanes_above) i ring.zero c.as_slice.result.now) folder.ext_alpha_powers.now) g.met.SC.Challenge.PackedExtensionField.extension_packed_ring
    ∙ ap (λ vs. sum_of_products ring g.SC.Challenge.Field.ZERO (lane_values (both_lanes lanes_above) i ring.zero vs) folder.ext_alpha_powers.now) c.as_slice.ensures.value in
    in_both {Level = OfExtension} {N = 2} lanes_above width many_above i ring.zero _ _
    (λ before. c.plus_base_sums-first.ensures i before
    ∙ ap (λ vs. ring.add (sums (lane_values lanes i zero vs)) (slice_index_or (lanes_above sum.first) i ring.zero))
    (c.as_slice-2.ensures.value ∙ c.in_ok-packs_at.ensures ∙ ap (map (pack_at 0)) c.as_slice-base_constraints.ensures.value)
    ∙ ap (λ vs. ring.add (sums vs) (slice_index_or (lanes_above sum.first) i ring.zero)) (sym (first_lanes lanes width many i zero before values))
    ∙ ap (ring.add (sums (lane_values (both_lanes lanes) i zero values))) (sym (first_lane lanes_above width many_above i ring.zero before sum) ∙ start))
    (λ behind. c.plus_base_sums-second.ensures (i - width) (omega (arith, within, behind))
    ∙ ap (λ vs. ring.add (sums (lane_values lanes (i - width) zero vs)) (slice_index_or (lanes_above sum.second) (i - width) ring.zero))
    (c.as_slice-3.ensures.value ∙ c.in_ok-packs_at-2.ensures ∙ ap (map (pack_at 1)) c.as_slice-base_constraints.ensures.value)
    ∙ ap (λ vs. ring.add (sums vs) (slice_index_or (lanes_above sum.second) (i - width) ring.zero)) (sym (second_lanes lanes width many i zero behind values))
    ∙ ap (ring.add (sums (lane_values (both_lanes lanes) i zero values))) (sym (second_lane lanes_above width many_above i ring.zero behind sum) ∙ start))
