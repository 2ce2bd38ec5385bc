use Rattle.std.proofs.Common.{◌≡◌, ◌<◌, ◌+◌, ◌*◌, ◌/◌, ◌%◌, ℕ, Some, length, ◌≤◌}
use Rattle.std.specs.Prelude.{vec_capacity}
use Rattle.std.specs.List.{slice_get}
use Rattle.stark_support.proofs.matrix.RowMajorMatrix.vertically_packed_row_into.Given as goal

abbrev pub invariant-loop-column : goal.invariant-loop-column
invariant-loop-column g l =
    (length l.packed.items ≡ l.column) × (vec_capacity l.fn.packed ≤ vec_capacity l.packed)
    × ((c : ℕ) (p : g.row.P.Denot) → slice_get l.packed.items c ≡ Some p → (i : ℕ) → i < g.P.PackedValue.WIDTH → slice_get (g.P.PackedValue.lanes p) i
    ≡ slice_get l.fn.self.values.items (((l.r + i) % (length l.fn.self.values.items / l.fn.self.width)) * l.fn.self.width + c))
