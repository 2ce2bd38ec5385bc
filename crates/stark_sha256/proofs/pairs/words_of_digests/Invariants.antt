use Rattle.std.proofs.Common.{◌≡◌, ◌+◌, ◌*◌, ◌<◌, ℕ, [], length, slice_index, slice_index_or}
use Rattle.sha2.specs.Sha256.{word_at}
use Rattle.stark_sha256.proofs.pairs.words_of_digests.Given as goal

abbrev pub invariant-loop-j : goal.invariant-loop-j
invariant-loop-j g l = (length l.words ≡ g.row.N)
    × ((i : ℕ) → i < l.j → slice_index l.words i ≡ word_at (slice_index_or l.digests (2 * i + l.from) []) (4 * l.place))
    × ((i : ℕ) → i < l.j → length (slice_index_or l.digests (2 * i + l.from) []) ≡ 32)
