use Rattle.std.proofs.Common.{◌≡◌, get_or, ◌∙◌, ◌<◌, ◌+◌, ◌-◌, ap, arith, map, slice_index_or, subst, sym, option_map, List}
use Rattle.std.specs.Vec.{vec_items}
use Rattle.std.proofs.lemmas.Option.{slice_get-get_or, slice_get-map, slice_get_read}
use Rattle.stark_prover_folder.specs.Finalized.{lane_values, sum_of_products}
use Rattle.stark_prover_folder.specs.PackedSums.{lane_combination}
use Rattle.stark_support.specs.ListFacts.{mapped_at}
use Rattle.stark_prover_folder.proofs.FinalizedSteps.{all_coordinates, one_more_coordinate}
use Rattle.stark_prover_folder.proofs.prover_folder.plus_base_sums.Goals as goal

pub loop-index-preserved : goal.loop-index-preserved
loop-index-preserved g c = (
  omega (arith, c.loop-index.invariant.0),
  λ i within.
      let base = g.SC.Pcs.Domain.Val.Field in
      let packed = g.SC.Pcs.Domain.Val.Packing.PackedValue in
      let above = g.SC.Challenge.ExtensionPacking.PackedValue in
      let ring = g.SC.Challenge.Field.ring in
      let field = g.SC.Challenge.ExtensionField in
      let laws = g.met.SC.Challenge.PackedExtensionField in
      let wide = subst (λ n. i < n) laws.packed_as_wide within in
      let values = c.args.values.now in
      let sums = λ (row : List g.row.SC-Pcs-Domain-Val.Denot). field.embed (sum_of_products base.ring base.ZERO (lane_values packed.lanes i base.ring.zero values) row) in
      let rows = c.args.powers.now in
      let j = c.loop-index.index - 1 in
      let row = c.index-powers-index.result in
      let element = get_or field.basis j ring.zero in
      let coordinate = c.packed_sum-coordinate.result in
      let rest = slice_index_or (above.lanes c.loop-index.sum) i ring.zero in
      let within_rows : j < field.DIMENSION = omega (arith, c.loop-index.invariant.0, c.loop-index-test.true) in
      let at_element = slice_get-get_or field.basis j ring.zero (subst (λ n. j < n) (sym g.met.SC.Challenge.ExtensionField.is_basis.size) within_rows) in
      let next : j + 1 ≡ c.loop-index.index = omega (arith, c.loop-index-test.true) in
      let at_row = slice_get_read rows field.DIMENSION j row (sym c.requires.dimension) within_rows c.index-powers-index.is in
      let at_sum = slice_get-map sums (map vec_items rows) j ∙ ap (option_map sums) (slice_get-map vec_items rows j ∙ ap (option_map vec_items) at_row) in
      let lane = ap (λ z. slice_index_or (packed.lanes z) i base.ring.zero) c.packed_sum-coordinate.ensures
      ∙ lane_combination g.met.SC.Pcs.Domain.Val.Packing.PackedValue.lane_by_lane i base.ring.zero wide base.ZERO values c.as_slice.result.now
      ∙ ap (λ r. sum_of_products r base.ZERO (lane_values packed.lanes i base.ring.zero values) c.as_slice.result.now) g.met.SC.Pcs.Domain.Val.PackedField.packed_ring
      ∙ ap (λ cs. sum_of_products base.ring base.ZERO (lane_values packed.lanes i base.ring.zero values) cs) c.as_slice.ensures.value in
      let there = subst (λ n. i < n) (sym (g.met.SC.Pcs.Domain.Val.Packing.PackedValue.lane_by_lane.as_many coordinate)) wide in
      let is = c.plus_packed_coordinate-sum.ensures element at_element i within
      ∙ ap (λ x. ring.add (ring.mul element x) rest) (mapped_at field.embed (packed.lanes coordinate) i base.ring.zero ring.zero there ∙ ap field.embed lane) in
      one_more_coordinate ring _ field.basis (map sums (map vec_items rows)) j c.loop-index.index element (sums row.items) rest (slice_index_or (above.lanes c.plus_packed_coordinate-sum.result) i ring.zero) next at_element at_sum (c.loop-index.invariant.1 i within) is,
)

pub returns : goal.returns
returns g c i within =
    let ended : c.loop-index.index ≡ 0 = omega (arith, c.loop-index-test.false) in
    all_coordinates g.met.SC.Challenge.Field.field_laws.of_ring _ _ _ c.loop-index.index _ ended (c.loop-index.invariant.1 i within)
