-- Texts of one length, each with its padding, and their blocks.
use Rattle.std.specs.Prelude.{◌+◌, ◌*◌, ℕ, List, take, drop, slice_index}
use Rattle.sha2.specs.Sha256.{padded_message}
use Rattle.stark_sha256.specs.Pieces.{piece, text_of}
use Rattle.stark_sha256.specs.declared.texts.Texts.{Texts}

-- how many bytes each text has
abbrev pub len_of : {n : ℕ} → Texts n → ℕ
len_of texts = 1 + (texts.first_len + texts.second_len)

-- the text in lane j
abbrev pub text_in : {n : ℕ} → Texts n → ℕ → List ℕ
text_in texts j = text_of (slice_index texts.tags.now j) (piece texts.first.now j) (piece texts.second.now j)

-- the text in lane j with its padding
unfoldable pub padded_in : {n : ℕ} → Texts n → ℕ → List ℕ
padded_in texts j = padded_message (text_in texts j)

-- block k of the text in lane j
abbrev pub block_in : {n : ℕ} → Texts n → ℕ → ℕ → List ℕ
block_in texts k j = take 64 (drop (k * 64) (padded_in texts j))
