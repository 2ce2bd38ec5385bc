-- What is written to a buffer that a caller gave.
use Rattle.std.specs.Prelude.{ℕ, List, [], ◌∷◌, ◌++◌, length, take, drop, Option, None, Some, String, codes, string_bytes}

-- As much of the text as leaves a byte, a 0 byte, and after it what was there.
abbrev pub written : List ℕ → List ℕ → List ℕ
written text [] = []
written text (b ∷ bs) = take (length bs) text ++ (0 ∷ drop (length text) bs)

-- the words of a reason
abbrev pub words_of : {Z : Type 0} → Option (String Z) → Option (List ℕ)
words_of None = None
words_of (Some words) = Some (string_bytes words)

-- A line of words, where there are some.
abbrev pub line_behind : Option (List ℕ) → List ℕ
line_behind None = []
line_behind (Some words) = words ++ codes "\n"
