-- Texts in pieces, and how long they are with their padding.
use Rattle.std.specs.Prelude.{◌≡◌, ◌+◌, ◌-◌, ◌%◌, ◌<◌, ℕ, List, [], ◌∷◌, ◌++◌, length, map, slice_index_or}
use Rattle.std.specs.Borrow.{Bor}

-- a byte, and two pieces after it
abbrev pub text_of : ℕ → List ℕ → List ℕ → List ℕ
text_of tag first second = tag ∷ (first ++ second)

-- what the slice in lane j holds
abbrev pub piece : List (Bor (List ℕ)) → ℕ → List ℕ
piece slices j = slice_index_or (map (λ slice. slice.now) slices) j []

-- how many zeros the padding of n bytes has
abbrev pub zeros_behind : ℕ → ℕ
zeros_behind n = (119 - n % 64) % 64

-- how long n bytes are with their padding
abbrev pub padded_len : ℕ → ℕ
padded_len n = n + 9 + zeros_behind n

-- the slices in n lanes have len bytes each
abbrev pub HaveLength : ℕ → ℕ → List (Bor (List ℕ)) → Type 0
HaveLength n len slices = (j : ℕ) → j < n → length (piece slices j) ≡ len
