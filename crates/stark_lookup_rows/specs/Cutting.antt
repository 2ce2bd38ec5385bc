-- Values that are cut into pieces, of which each element of a list takes its own.
use Rattle.std.specs.Prelude.{ℕ, List, [], ◌∷◌, ◌++◌, drop}

module _ {S X F Y : Type 0} (size : X → ℕ) (next : S → S) (make : S → X → List F → List Y) where
  -- What each makes of the values from its own on, in a state that goes on from one to the next.
  abbrev pub cut : S → List X → List F → List Y
  cut s [] values = []
  cut s (x ∷ xs) values = make s x values ++ cut (next s) xs (drop (size x) values)

-- What each makes in its state.
abbrev pub made_in_turn : {S X Y : Type 0} → (S → S) → (S → X → List Y) → S → List X → List Y
made_in_turn next make s [] = []
made_in_turn next make s (x ∷ xs) = make s x ++ made_in_turn next make (next s) xs
