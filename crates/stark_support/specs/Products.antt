-- The product of a list, and the products of what is behind each of its elements.
use Rattle.std.specs.Prelude.{◌≡◌, ℕ, ◌-◌, ◌<◌, List, [], ◌∷◌, length, drop, Some}
use Rattle.std.specs.List.{slice_get}
use Rattle.stark_support.specs.Ring.{RingOps}

-- the first element times the product of the rest
unfoldable pub list_product : {K : Type 0} → RingOps K → List K → K
list_product ring [] = ring.one
list_product ring (x ∷ xs) = ring.mul x (list_product ring xs)

-- as many products as `count`: number m is that of the last m elements
pub record AreRests {K : Type 0} (ring : RingOps K) (xs : List K) (count : ℕ) (rests : List K) : Type 0 where
  pub number : length rests ≡ count
  pub at_count : (m : ℕ) → m < count → slice_get rests m ≡ Some (list_product ring (drop (length xs - m) xs))
