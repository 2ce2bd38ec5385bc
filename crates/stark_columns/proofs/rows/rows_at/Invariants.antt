use Rattle.std.proofs.Common.{◌≡◌, ◌++◌, map, drop}
use Rattle.stark_support.specs.Scheme.{row_at}
use Rattle.stark_columns.specs.Columns.{column_list}
use Rattle.stark_columns.proofs.rows.rows_at.Given as goal

abbrev pub invariant-loop-point : goal.invariant-loop-point
invariant-loop-point g l =
    map (λ row. row.items) l.rows.items ++ map (row_at g.EF.Field.ring g.EF.ExtensionField.embed (map column_list l.columns)) (drop l.point-index l.points)
    ≡ map (row_at g.EF.Field.ring g.EF.ExtensionField.embed (map column_list l.columns)) l.points
