use Rattle.std.proofs.Common.{◌≡◌, ◌<◌, ℕ, [], length, slice_index, slice_index_or}
use Rattle.sha2.specs.Sha256.{sha256}
use Rattle.stark_sha256.specs.Pieces.{piece, text_of}
use Rattle.stark_sha256.proofs.digest.digests_one_by_one.Given as goal

abbrev pub invariant-loop-j : goal.invariant-loop-j
invariant-loop-j g l = (length l.digests ≡ g.row.N)
    × ((i : ℕ) → i < l.j → slice_index_or l.digests i [] ≡ sha256 (text_of (slice_index l.tags i) (piece l.first i) (piece l.second i)))
