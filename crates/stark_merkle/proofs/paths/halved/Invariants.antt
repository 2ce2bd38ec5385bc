use Rattle.std.proofs.Common.{◌≡◌, ◌/◌, ◌<◌, ◌≤◌, ℕ, length, slice_index}
use Rattle.stark_merkle.proofs.paths.halved.Given as goal

-- Those before are halved, the others as they were.
abbrev pub invariant-loop-i : goal.invariant-loop-i
invariant-loop-i l = (length l.halves ≡ 8)
    × ((k : ℕ) → k < l.i → slice_index l.halves k ≡ slice_index l.places k / 2)
    × ((k : ℕ) → l.i ≤ k → slice_index l.halves k ≡ slice_index l.places k)
