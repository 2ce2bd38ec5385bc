-- What is written of a list is read back.
use Rattle.std.specs.Prelude.{◌≡◌, List, [], ◌∷◌, map, Option, Some, refl}
use Rattle.serde_json.specs.Data.{Data, array}
use Rattle.serde_json.specs.View.{items_of}
use Rattle.stark_support.specs.Json.{array_at, each_at}

-- the array of what spells each member
abbrev pub list_written : {A : Type 0} → (A → Data) → List A → Data
list_written writing xs = array (items_of (map writing xs))

module _ {A : Type 0} (reading : Data → Option A) (writing : A → Data) (back : (x : A) → reading (writing x) ≡ Some x) where
  pub each_back : (xs : List A) → each_at reading (items_of (map writing xs)) ≡ Some xs
  each_back [] = refl
  each_back (x ∷ xs) = rw (back x, each_back xs) refl

  -- A list is read back where its members are.
  pub list_back : (xs : List A) → array_at reading (list_written writing xs) ≡ Some xs
  unfolding array_at
  list_back xs = each_back xs
