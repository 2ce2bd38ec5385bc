use Rattle.std.proofs.Common.{◌≡◌, ◌++◌, map, drop}
use Rattle.std.specs.List.{flat_map}
use Rattle.stark_support.specs.Polynomial.{value}
use Rattle.stark_support.specs.Scheme.{row_at}
use Rattle.stark_columns.specs.Columns.{column_list}
use Rattle.stark_columns.proofs.rows.values_on.Given as goal

abbrev pub invariant-loop-point : goal.invariant-loop-point
invariant-loop-point g l =
    l.values.items ++ flat_map (row_at g.F.Field.ring (λ c. c) (map column_list l.columns)) (drop l.point-index l.points) ≡ flat_map (row_at g.F.Field.ring (λ c. c) (map column_list l.columns)) l.points

abbrev pub invariant-loop-column : goal.invariant-loop-column
invariant-loop-column g l =
    l.values.items ++ map (λ column. value g.F.Field.ring column.items l.point) (drop l.column-index l.columns) ≡ l.initial.values.items ++ map (λ column. value g.F.Field.ring column.items l.point) l.columns
