use Rattle.std.proofs.Common.{◌≡◌, ◌∙◌, ap, arith, length, map, sym}
use Rattle.std.proofs.Common.{subst}
use Rattle.std.proofs.lemmas.List.{length-map}
use Rattle.std.proofs.lemmas.List.FromFn.{length-map-range_with_len}
use Rattle.stark_support.specs.Powers.{power}
use Rattle.stark_fri_prover.specs.Batch.{AddsQuotient, combination, combined_at, weights_from}
use Rattle.stark_columns.specs.Columns.{column_list}
use Rattle.stark_fri_prover.proofs.BatchSteps.{adds_combination, first_factor, next_factor, no_weights, weights_all, weights_more}
use Rattle.stark_fri_prover.proofs.batch.add_claims.Goals as goal

pub loop-column-init : goal.loop-column-init
loop-column-init g c = record {
  weights = no_weights g.met.EF.Field.field_laws.of_ring c.args.alpha c.in_ok-weights.weights.items c.args.first (length c.args.columns.now) _ c.in_ok-weights.ensures.items (omega arith);
  factor = first_factor g.met.EF.Field.field_laws.of_ring c.args.alpha c.args.first;
}

pub loop-column-preserved : goal.loop-column-preserved
loop-column-preserved g c =
    let next = g.met.EF.Field.mul_is _ _ _ c.mul-factor.ensures in
    record {
      weights = weights_more g.met.EF.Field.field_laws.of_ring c.args.alpha c.loop-column.weights.items _ _ c.loop-column.factor c.mul-factor.result (length c.args.columns.now) c.loop-column._column-index c.loop-column-test.true c.in_ok-push.ensures.items next c.loop-column.invariant.weights;
      factor = next_factor g.met.EF.Field.field_laws.of_ring c.args.alpha c.args.first c.loop-column.factor c.mul-factor.result c.loop-column._column-index next c.loop-column.invariant.factor;
    }

pub add_quotient-requires : goal.add_quotient-requires
add_quotient-requires g c =
    ap length (c.deref-2.ensures.value ∙ c.in_ok-combined.ensures)
    ∙ length-map-range_with_len (combined_at g.EF.Field.ring g.EF.ExtensionField.embed g.F.Field.ring.zero c.deref.result.now (map column_list c.args.columns.now)) 0 (length c.args.sum.now)

pub returns : goal.returns
returns g c = λ fits.
    let ring = g.EF.Field.ring in
    let embed = g.EF.ExtensionField.embed in
    let laws = g.met.EF.Field.field_laws.of_ring in
    let columns = map column_list c.args.columns.now in
    let sum = c.args.sum.now in
    let weights = c.loop-column.weights.items in
    let count : length columns ≡ length c.args.columns.now = length-map c.args.columns.now column_list in
    let index : c.loop-column._column-index ≡ length columns = omega (arith, count, c.loop-column-test.false, c.loop-column.auto._column-index-end) in
    adds_combination laws c.args.alpha embed g.F.Field.ring.zero g.met.EF.ExtensionField.embeds.keeps.zero columns c.args.point c.args.first c.loop-column.factor weights sum c.add_quotient.new.sum
    (weights_all laws c.args.alpha weights (weights_from ring c.args.alpha c.args.first (length c.args.columns.now)) c.loop-column.factor (length c.args.columns.now) c.loop-column._column-index c.loop-column-test.false c.loop-column.invariant.weights
    ∙ ap (weights_from ring c.args.alpha c.args.first) (sym count))
    (c.loop-column.invariant.factor ∙ ap (λ n. ring.mul c.args.first (power ring c.args.alpha n)) index)
    fits
    (subst (λ t. AddsQuotient ring c.args.point t sum c.add_quotient.new.sum)
    (c.deref-2.ensures.value ∙ c.in_ok-combined.ensures ∙ ap (λ ws. combination ring embed g.F.Field.ring.zero ws columns (length sum)) c.deref.ensures.value) c.add_quotient.ensures)
