use Rattle.std.proofs.Common.{◌∙◌, arith}
use Rattle.stark_columns.specs.Columns.{column_list}
use Rattle.stark_fri_prover.proofs.BatchSteps.{nothing_left}
use Rattle.stark_fri_prover.proofs.batch.weighted_sum.Goals as goal

pub loop-index-init : goal.loop-index-init
loop-index-init g c = record {
  columns_left = omega (arith, c.min-index.ensures);
  weights_left = omega (arith, c.min-index.ensures);
  sum = nothing_left g.F.Field.ring c.args.place column_list c.args.columns.now c.args.weights.now c.min-index.result c.ZERO-sum.result (c.ZERO-sum.ensures ∙ g.met.F.Field.zero_is) (omega (arith, c.min-index.ensures));
}
