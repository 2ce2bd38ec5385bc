use Rattle.std.proofs.Common.{◌≡◌, ◌<◌, ℕ, Some}
use Rattle.std.specs.List.{slice_get}
use Rattle.stark_support.proofs.packed.packed_from_fn.Given as goal

abbrev pub invariant-loop-lane : goal.invariant-loop-lane
invariant-loop-lane g l =
    (k : ℕ) → k < l.lane → (value : g.row.P-Value.Denot) × (g.G.Fn.post l.value_of (k, tt) value) × (slice_get (g.P.PackedValue.lanes l.packed) k ≡ Some value)
