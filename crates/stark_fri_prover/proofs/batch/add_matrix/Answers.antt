use Rattle.std.proofs.Common.{map, subst, sym}
use Rattle.stark_columns.specs.Columns.{column_list}
use Rattle.stark_fri_prover.specs.Batch.{ColumnsFit}
use Rattle.stark_fri_prover.specs.Batching.{opened_at}
use Rattle.stark_fri_prover.proofs.BatchSteps.{adds_all, adds_more, adds_none}
use Rattle.stark_fri_prover.proofs.batch.add_matrix.Goals as goal

pub loop-point-init : goal.loop-point-init
loop-point-init g c = λ fits. adds_none g.met.EF.Field.field_laws.of_ring c.args.alpha c.args.sum.now c.args.first

pub loop-point-preserved : goal.loop-point-preserved
loop-point-preserved g c = λ fits.
    let columns = map column_list c.args.columns.now in
    let one = c.loop-point.invariant fits in
    adds_more g.met.EF.Field.field_laws.of_ring c.args.alpha (opened_at g.EF.ExtensionField.embed columns) c.args.points.now c.loop-point.point-index c.point-item.result c.args.sum.now c.loop-point.sum c.add_claims.new.sum
    c.args.first c.loop-point.factor c.in_ok-factor.factor c.loop-point-test.true c.point-item.is one (c.in_ok-factor.ensures (subst (λ n. ColumnsFit n columns) (sym one.number) fits))

pub returns : goal.returns
returns g c = λ fits.
    adds_all g.met.EF.Field.field_laws.of_ring c.args.alpha (opened_at g.EF.ExtensionField.embed (map column_list c.args.columns.now)) c.args.points.now c.loop-point.point-index c.args.sum.now c.loop-point.sum c.args.first c.loop-point.factor
    c.loop-point-test.false (c.loop-point.invariant fits)
