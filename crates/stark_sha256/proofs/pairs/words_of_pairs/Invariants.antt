use Rattle.std.proofs.Common.{◌≡◌, ◌+◌, ◌*◌, ◌<◌, ℕ, [], length, slice_index, slice_index_or}
use Rattle.sha2.specs.Sha256.{word_at}
use Rattle.stark_sha256.proofs.pairs.words_of_pairs.Given as goal

-- How long the digests are is known once one word of them was read.
abbrev pub invariant-loop-place : goal.invariant-loop-place
invariant-loop-place g l = (length l.words ≡ 16)
    × ((i : ℕ) → i < l.place → (j : ℕ) → j < g.row.N
    → slice_index (slice_index_or l.words i []) j ≡ word_at (slice_index_or l.pairs (2 * j + 0) []) (4 * i))
    × ((i : ℕ) → i < l.place → (j : ℕ) → j < g.row.N
    → slice_index (slice_index_or l.words (8 + i) []) j ≡ word_at (slice_index_or l.pairs (2 * j + 1) []) (4 * i))
    × (0 < l.place → (j : ℕ) → j < g.row.N → length (slice_index_or l.pairs (2 * j + 0) []) ≡ 32)
