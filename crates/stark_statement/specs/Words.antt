-- Writings by words, each a number of 64 bits, and the bytes of words.
use Rattle.std.specs.Prelude.{ℕ, ◌<◌, ◌^◌, List, [], ◌∷◌, ◌++◌, length, flat_map, All, Option, None, Some, codes}
use Rattle.stark_support.specs.Seed.{number}

-- Each is a number of 64 bits.
abbrev pub AreWords : List ℕ → Type 0
AreWords words = All (λ w. w < 2 ^ 64) words

abbrev pub word : ℕ → List ℕ
word n = n ∷ []

-- 0, or 1 and what there is
abbrev pub optional : {A : Type 0} → (A → List ℕ) → Option A → List ℕ
optional words None = 0 ∷ []
optional words (Some x) = 1 ∷ words x

-- how many there are, and each in turn
abbrev pub counted : {A : Type 0} → (A → List ℕ) → List A → List ℕ
counted words xs = length xs ∷ flat_map words xs

-- What the bytes of a statement begin with, unlike those of other kinds, with the version of the writing.
abbrev pub label : List ℕ
label = codes "voskligan statement 3"

-- the label, and each word as 8 bytes, the high one first
unfoldable pub labelled : List ℕ → List ℕ
labelled words = label ++ flat_map number words

-- their number first, so that no writing is the beginning of another
unfoldable pub framed : List ℕ → List ℕ
framed bytes = number (length bytes) ++ bytes
