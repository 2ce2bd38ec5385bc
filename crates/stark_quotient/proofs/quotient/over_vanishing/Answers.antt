use Rattle.std.proofs.Common.{◌<◌, ap, refl, subst, sym, ◌∙◌, slice_index_or}
use Rattle.std.proofs.lemmas.List.{get_or-map}
use Rattle.stark_air.specs.LaneValues.{lane_two}
use Rattle.stark_quotient.proofs.quotient.over_vanishing.Goals as goal

pub returns : goal.returns
returns g c = λ i within.
    let algebra = g.met.G.PackedAbove.Algebra in
    let packed = g.met.G.PackedAbove.PackedValue in
    let base = g.met.G.Packed.PackedValue in
    let above = g.met.G.GroupEval in
    let embed = g.SC.Challenge.ExtensionField.embed in
    let lanes = g.G.PackedAbove.PackedValue.lanes in
    let d = g.SC.Challenge.Field.ring.zero in
    let zero = g.SC.Pcs.Domain.Val.Field.ring.zero in
    let inverses = g.G.Packed.PackedValue.lanes c.args.inverses in
    let there = subst (λ n. i < n) (above.as_wide ∙ sym (base.lane_by_lane.as_many c.args.inverses)) within in
    lane_two packed.lane_by_lane i d within g.G.PackedAbove.PackedValue.lane_ring.mul c.args.sums c.from.result c.mul.result _ _
    (ap lanes (packed.exact_lanes _ _ (algebra.times_stands _ _ _ c.args.sums c.from.result c.mul.ensures (algebra.stands_itself _) (algebra.stands_itself _))) ∙ packed.lane_by_lane.times _ _)
    refl (ap (λ l. slice_index_or l i d) (above.from_packed_is _ _ c.from.ensures) ∙ get_or-map embed inverses i zero d there) ∙
    ap (λ ring. ring.mul (slice_index_or (lanes c.args.sums) i d) (embed (slice_index_or inverses i zero))) above.extension_ring
