use Rattle.std.proofs.Common.{◌<◌, arith, length, map, subst, sym}
use Rattle.std.specs.List.{zip}
use Rattle.stark_columns.specs.Columns.{column_list, columns_list}
use Rattle.stark_fri_prover.specs.Batch.{AddsColumns, ColumnsFit}
use Rattle.stark_fri_prover.specs.Batching.{opened_in_matrix}
use Rattle.stark_fri_prover.proofs.BatchSteps.{adds_all, adds_more, adds_none, all_at_place, zipped_item, zipped_length}
use Rattle.stark_fri_prover.proofs.batch.add_round.Goals as goal

pub loop-index-init : goal.loop-index-init
loop-index-init g c = λ fits. adds_none g.met.EF.Field.field_laws.of_ring c.args.alpha c.args.sum.now c.args.first

pub loop-index-preserved : goal.loop-index-preserved
loop-index-preserved g c = λ fits.
    let ring = g.EF.Field.ring in
    let embed = g.EF.ExtensionField.embed in
    let matrices = c.args.matrices.now in
    let points = c.args.points.now in
    let i = c.loop-index.index in
    let matrix = c.index-matrices-index.result in
    let list = c.index-points-index.result in
    let before = c.loop-index.sum in
    let after = c.add_matrix.new.sum in
    let in_matrices : i < length matrices = omega (arith, c.loop-index-test.true, c.min-index-end.ensures) in
    let in_points : i < length points = omega (arith, c.loop-index-test.true, c.min-index-end.ensures) in
    let one = c.loop-index.invariant fits in
    let own : ColumnsFit (length before) (columns_list matrix)
    = subst (λ n. ColumnsFit n (columns_list matrix)) (sym one.number) (all_at_place columns_list (ColumnsFit (length c.args.sum.now)) matrices i matrix in_matrices c.index-matrices-index.is fits) in
    let contract : AddsColumns ring c.args.alpha (columns_list matrix) (opened_in_matrix embed (columns_list matrix, column_list list)) before after c.loop-index.factor c.in_ok-factor.factor
    = subst (λ t. AddsColumns ring c.args.alpha (columns_list matrix) (opened_in_matrix embed (columns_list matrix, t)) before after c.loop-index.factor c.in_ok-factor.factor) c.deref-in-loop-index.ensures.value
    (subst (λ t. AddsColumns ring c.args.alpha (map column_list t) (opened_in_matrix embed (map column_list t, c.deref-in-loop-index.result.now)) before after c.loop-index.factor c.in_ok-factor.factor) c.deref.ensures.value c.in_ok-factor.ensures) in
    adds_more g.met.EF.Field.field_laws.of_ring c.args.alpha (opened_in_matrix embed) (zip (map columns_list matrices) (map column_list points)) i (columns_list matrix, column_list list) c.args.sum.now before after
    c.args.first c.loop-index.factor c.in_ok-factor.factor (omega (arith, in_matrices, in_points, zipped_length columns_list column_list matrices points))
    (zipped_item columns_list column_list matrices points i matrix list in_matrices in_points c.index-matrices-index.is c.index-points-index.is) one (contract own)

pub returns : goal.returns
returns g c = λ fits.
    let matrices = c.args.matrices.now in
    let points = c.args.points.now in
    adds_all g.met.EF.Field.field_laws.of_ring c.args.alpha (opened_in_matrix g.EF.ExtensionField.embed) (zip (map columns_list matrices) (map column_list points)) c.loop-index.index c.args.sum.now c.loop-index.sum c.args.first c.loop-index.factor
    (omega (arith, c.loop-index-test.false, c.min-index-end.ensures, zipped_length columns_list column_list matrices points)) (c.loop-index.invariant fits)
