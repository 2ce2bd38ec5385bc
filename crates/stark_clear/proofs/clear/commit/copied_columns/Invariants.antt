use Rattle.std.proofs.Common.{◌≡◌, ◌++◌, map, drop}
use Rattle.stark_columns.specs.Columns.{column_list, columns_list}
use Rattle.stark_clear.proofs.clear.commit.copied_columns.Given as goal

abbrev pub invariant-loop-column : goal.invariant-loop-column
invariant-loop-column g l = columns_list l.copy ++ map column_list (drop l.column-index l.columns) ≡ map column_list l.columns
