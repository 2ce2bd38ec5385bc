use Rattle.std.proofs.Common.{◌≡◌, ◌<◌, ℕ, [], length, slice_index, slice_index_or}
use Rattle.stark_sha256.proofs.digest.in_each_lane.Given as goal

abbrev pub invariant-loop-i : goal.invariant-loop-i
invariant-loop-i g l = (length l.state ≡ 8)
    × ((k : ℕ) → k < l.i → (j : ℕ) → j < g.row.N → slice_index (slice_index_or l.state k []) j ≡ slice_index l.value k)
