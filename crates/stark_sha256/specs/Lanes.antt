-- Words of several texts side by side: of each word a vector with a lane for each text.
use Rattle.std.specs.Prelude.{◌≡◌, ◌*◌, ◌<◌, ℕ, List, length, map, slice_index}
use Rattle.sha2.specs.Sha256.{word_at}

-- the words of the text in lane j
abbrev pub lane : ℕ → List (List ℕ) → List ℕ
lane j words = map (λ word. slice_index word j) words

-- the word of the first four bytes in lane j, the high byte first
abbrev pub word_of_column : List (List ℕ) → ℕ → ℕ
word_of_column bytes j = word_at (lane j bytes) 0

-- the sixteen words of a block of bytes
abbrev pub AreWords : List ℕ → List ℕ → Type 0
AreWords block words = (length words ≡ 16)
    × ((i : ℕ) → i < 16 → slice_index words i ≡ word_at block (4 * i))
