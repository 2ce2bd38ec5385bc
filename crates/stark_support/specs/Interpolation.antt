-- The polynomial through given points, built up a point at a time (Newton's form).
use Rattle.std.specs.Prelude.{◌≡◌, List, [], ◌∷◌, map, length}
use Rattle.stark_support.specs.Ring.{RingOps, difference}
use Rattle.stark_support.specs.Polynomial.{value, polynomial_sum, scaled}

-- X - r times a polynomial
abbrev pub times_root : {K : Type 0} → RingOps K → K → List K → List K
times_root ring r p = polynomial_sum ring (ring.zero ∷ p) (scaled ring (ring.neg r) p)

-- The product of X - r over the points r.
abbrev pub polynomial_with_roots : {K : Type 0} → RingOps K → List K → List K
polynomial_with_roots ring [] = ring.one ∷ []
polynomial_with_roots ring (r ∷ rs) = times_root ring r (polynomial_with_roots ring rs)

-- To what takes the later values is added the multiple of the product over the later points which makes it take the first.
abbrev pub interpolation : {K : Type 0} → RingOps K → (K → K) → List K → List K → List K
interpolation ring inverse [] values = []
interpolation ring inverse (x ∷ xs) [] = []
interpolation ring inverse (x ∷ xs) (v ∷ vs) =
    let later = interpolation ring inverse xs vs in
    let product = polynomial_with_roots ring xs in
    polynomial_sum ring later (scaled ring (ring.mul (difference ring v (value ring later x)) (inverse (value ring product x))) product)

-- A polynomial of degree below the number of the points takes the values at them. There is one such polynomial alone.
pub record TakesValues {K : Type 0} (ring : RingOps K) (p points values : List K) : Type 0 where
  pub degree : length p ≡ length points
  pub takes : map (value ring p) points ≡ values
