use Rattle.std.proofs.Common.{◌≡◌, ◌<◌, ◌+◌, ◌^◌, ℕ, Some, length}
use Rattle.std.specs.List.{slice_get}
use Rattle.stark_support.specs.PeriodicTable.{table_at}
use Rattle.stark_quotient.proofs.packed_rows.packed_table_row.Given as goal

abbrev pub invariant-loop-column : goal.invariant-loop-column
invariant-loop-column g l =
    (length l.row.items ≡ l.column)
    × ((c : ℕ) (p : g.row.P.Denot) → slice_get l.row.items c ≡ Some p → (i : ℕ) → i < g.P.PackedValue.WIDTH → l.start + i < 2 ^ 64
    → slice_get (g.P.PackedValue.lanes p) i ≡ table_at l.table.values.items l.table.width l.table.period (l.start + i) c)
