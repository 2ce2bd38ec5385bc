use Rattle.std.proofs.Common.{◌≡◌, map}
use Rattle.stark_columns.specs.Columns.{column_list}
use Rattle.stark_fri_prover.specs.Batch.{combination}
use Rattle.stark_fri_prover.proofs.batch.combination.Given as goal

abbrev pub invariant-loop-place : goal.invariant-loop-place
invariant-loop-place g l =
    l.combined.items ≡ combination g.EF.Field.ring g.EF.ExtensionField.embed g.F.Field.ring.zero l.weights (map column_list l.columns) l.place
