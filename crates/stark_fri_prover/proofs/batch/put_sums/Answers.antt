use Rattle.std.proofs.Common.{map}
use Rattle.stark_columns.specs.Columns.{column_list}
use Rattle.stark_fri_prover.specs.Batch.{weighted_at}
use Rattle.stark_fri_prover.proofs.BatchSteps.{all_sums}
use Rattle.stark_fri_prover.proofs.batch.put_sums.Goals as goal

pub returns : goal.returns
returns g c = all_sums c.loop-weights.row.items column_list (weighted_at g.F.Field.ring (map column_list c.args.columns.now) c.args.place) c.args.lists.now c.loop-weights.weights-index c.loop-weights-test.false c.loop-weights.invariant
