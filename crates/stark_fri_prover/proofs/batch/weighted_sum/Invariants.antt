use Rattle.std.proofs.Common.{◌≡◌, ◌≤◌, length, drop, map}
use Rattle.stark_columns.specs.Columns.{column_list}
use Rattle.stark_fri_prover.specs.Batch.{weighted_at}
use Rattle.stark_fri_prover.proofs.batch.weighted_sum.Given as goal

abbrev pub invariant-loop-index : goal.invariant-loop-index
invariant-loop-index g l = record {
  columns_left : l.index ≤ length l.columns;
  weights_left : l.index ≤ length l.weights;
  sum : l.sum ≡ weighted_at g.F.Field.ring (map column_list (drop l.index l.columns)) l.place (drop l.index l.weights);
}

abbrev pub decreases-loop-index : goal.decreases-loop-index
decreases-loop-index g l = l.index
