use Rattle.std.proofs.Common.{◌≡◌, ◌<◌, ◌+◌, ◌*◌, ℕ, Some}
use Rattle.std.specs.List.{slice_get}
use Rattle.stark_support.proofs.matrix.RowMajorMatrix.packed_straight.Given as goal

abbrev pub invariant-loop-lane : goal.invariant-loop-lane
invariant-loop-lane g l =
    (l.place + l.fn.self.width ≡ (l.r + l.lane) * l.fn.self.width + l.column)
    × ((k : ℕ) → k < l.lane → (value : g.row.T.Denot) × (slice_get l.fn.self.values.items ((l.r + k) * l.fn.self.width + l.column) ≡ Some value) × (slice_get (g.P.PackedValue.lanes l.packed) k ≡ Some value))
