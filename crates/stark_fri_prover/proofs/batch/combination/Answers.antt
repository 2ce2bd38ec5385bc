use Rattle.std.proofs.Common.{◌∙◌, ap, length, map}
use Rattle.std.proofs.lemmas.List.{length-map}
use Rattle.std.proofs.lemmas.List.FromFn.{length-map-range_with_len}
use Rattle.stark_columns.specs.Columns.{column_list}
use Rattle.stark_fri_prover.specs.Batch.{coefficients_at, combined_at, weighted_at}
use Rattle.stark_fri_prover.specs.Words.{coordinate_at}
use Rattle.stark_fri_prover.proofs.BatchSteps.{sum_by_coordinates}
use Rattle.stark_fri_prover.proofs.Steps.{place_more}
use Rattle.stark_fri_prover.proofs.batch.combination.Goals as goal

pub element_of-requires : goal.element_of-requires
element_of-requires g c =
    let coordinate = coordinate_at g.EF.ExtensionField.coordinates g.F.Field.ring.zero in
    ap length (c.deref-in-loop-place.ensures.value ∙ c.in_ok-put_sums.ensures)
    ∙ length-map (map column_list c.deref.result.now) (weighted_at g.F.Field.ring (map column_list c.args.columns.now) c.loop-place.place)
    ∙ ap (λ t. length (map column_list t)) c.deref.ensures.value ∙ ap length c.in_ok-coordinates.ensures
    ∙ length-map-range_with_len (λ place. map (coordinate place) c.args.weights.now) 0 g.EF.ExtensionField.DIMENSION

pub loop-place-preserved : goal.loop-place-preserved
loop-place-preserved g c =
    let place = c.loop-place.place in
    let columns = map column_list c.args.columns.now in
    let nothing = g.F.Field.ring.zero in
    place_more (combined_at g.EF.Field.ring g.EF.ExtensionField.embed nothing c.args.weights.now columns) place c.element_of.result c.loop-place.combined.items c.push.new.self.items c.in_ok-push.ensures.items c.loop-place.invariant
    (c.element_of.ensures ∙ sum_by_coordinates g.met.EF.Field.field_laws.of_ring g.met.EF.ExtensionField.embeds g.met.EF.ExtensionField.is_basis c.args.weights.now (coefficients_at nothing place columns) c.deref-in-loop-place.result.now
    (c.deref-in-loop-place.ensures.value ∙ c.in_ok-put_sums.ensures ∙ ap (λ t. map (weighted_at g.F.Field.ring columns place) (map column_list t)) c.deref.ensures.value
    ∙ ap (map (weighted_at g.F.Field.ring columns place)) c.in_ok-coordinates.ensures))
