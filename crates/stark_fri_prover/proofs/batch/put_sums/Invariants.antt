use Rattle.std.proofs.Common.{◌≡◌, ◌++◌, drop, map}
use Rattle.stark_columns.specs.Columns.{column_list}
use Rattle.stark_fri_prover.specs.Batch.{weighted_at}
use Rattle.stark_fri_prover.proofs.batch.put_sums.Given as goal

abbrev pub invariant-loop-weights : goal.invariant-loop-weights
invariant-loop-weights g l =
    l.row.items ++ map (λ ws. weighted_at g.F.Field.ring (map column_list l.columns) l.place (column_list ws)) (drop l.weights-index l.lists)
    ≡ map (λ ws. weighted_at g.F.Field.ring (map column_list l.columns) l.place (column_list ws)) l.lists
