use Rattle.std.proofs.Common.{map, take}
use Rattle.std.specs.List.{flat_map}
use Rattle.stark_columns.specs.Columns.{column_list}
use Rattle.stark_fri_prover.specs.Batch.{AddsColumns}
use Rattle.stark_fri_prover.specs.Batching.{opened_at}
use Rattle.stark_fri_prover.proofs.batch.add_matrix.Given as goal

abbrev pub invariant-loop-point : goal.invariant-loop-point
invariant-loop-point g l =
    AddsColumns g.EF.Field.ring l.alpha (map column_list l.columns) (flat_map (opened_at g.EF.ExtensionField.embed (map column_list l.columns)) (take l.point-index l.points)) l.fn.sum l.sum l.fn.first l.factor
