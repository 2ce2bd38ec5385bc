use Rattle.std.proofs.Common.{map, take}
use Rattle.std.specs.List.{flat_map, zip}
use Rattle.stark_columns.specs.Columns.{column_list, columns_list}
use Rattle.stark_fri_prover.specs.Batch.{AddsMatrices}
use Rattle.stark_fri_prover.specs.Batching.{opened_in_matrix}
use Rattle.stark_fri_prover.proofs.batch.add_round.Given as goal

abbrev pub invariant-loop-index : goal.invariant-loop-index
invariant-loop-index g l =
    AddsMatrices g.EF.Field.ring l.alpha (map columns_list l.matrices)
    (flat_map (opened_in_matrix g.EF.ExtensionField.embed) (take l.index (zip (map columns_list l.matrices) (map column_list l.points)))) l.fn.sum l.sum l.fn.first l.factor
