use Rattle.std.proofs.Common.{◌≡◌, ◌+◌, ◌*◌, ◌<◌, ℕ, [], length, slice_index, slice_index_or}
use Rattle.sha2.specs.Sha256.{word_at}
use Rattle.stark_sha256.specs.Texts.{padded_in}
use Rattle.stark_sha256.proofs.blocks.block_words.Given as goal

abbrev pub invariant-loop-place : goal.invariant-loop-place
invariant-loop-place g l = (length l.words ≡ 16) × ((i : ℕ) → i < l.place → (j : ℕ) → j < g.row.N
    → slice_index (slice_index_or l.words i []) j
    ≡ word_at (padded_in l.texts j) (64 * l.block + 4 * i))
