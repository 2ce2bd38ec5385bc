use Rattle.std.proofs.Common.{◌≡◌, ◌<◌, ℕ, length, slice_index}
use Rattle.sha2.specs.Sha256.{word_at}
use Rattle.stark_sha256.specs.Texts.{padded_in}
use Rattle.stark_sha256.proofs.blocks.words_by_bytes.Given as goal

abbrev pub invariant-loop-j : goal.invariant-loop-j
invariant-loop-j g l = (length l.words ≡ g.row.N) × ((i : ℕ) → i < l.j → slice_index l.words i ≡ word_at (padded_in l.texts i) l.at)
