use Rattle.std.proofs.Common.{ℕ, List, ◌<◌, ◌≤◌, length, get_or, map}
use Rattle.stark_dft.specs.Columns.{column_list}
use Rattle.stark_dft.proofs.columns.columns_fit.Given as goal

abbrev pub invariant-loop-column : goal.invariant-loop-column
invariant-loop-column g l = (k : ℕ) (d : List g.row.F.Denot) → k < l.column-index → length (get_or (map column_list l.columns) k d) ≤ l.size
