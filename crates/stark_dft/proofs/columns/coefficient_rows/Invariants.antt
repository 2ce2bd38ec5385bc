use Rattle.std.proofs.Common.{◌≡◌, ◌<◌, ◌+◌, ◌*◌, ◌++◌, ℕ, [], length, get_or, drop, map}
use Rattle.stark_dft.specs.Columns.{column_list}
use Rattle.stark_dft.specs.Passes.{entry}
use Rattle.stark_dft.proofs.columns.coefficient_rows.Given as goal

abbrev pub invariant-loop-place : goal.invariant-loop-place
invariant-loop-place g l = record {
  number : length l.rows.items ≡ length l.columns * l.place;
  each : (t c : ℕ) → t < l.place → c < length l.columns → entry g.F.Field.ring l.rows.items (t * length l.columns + c) ≡ entry g.F.Field.ring (get_or (map column_list l.columns) c []) t;
}

abbrev pub invariant-loop-column : goal.invariant-loop-column
invariant-loop-column g l =
    l.rows.items ++ map (λ column. entry g.F.Field.ring column.items l.place) (drop l.column-index l.columns) ≡ l.initial.rows.items ++ map (λ column. entry g.F.Field.ring column.items l.place) l.columns
