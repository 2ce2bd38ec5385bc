-- A polynomial that takes values at the powers of an element, and what the halves of its coefficients make together.
use Rattle.std.specs.Prelude.{◌≡◌, ℕ, ◌+◌, ◌<◌, List, [], ◌∷◌, length, Some}
use Rattle.std.specs.List.{slice_get}
use Rattle.stark_support.specs.Ring.{RingOps}
use Rattle.stark_support.specs.Polynomial.{value, HasDegreeBelow}
use Rattle.stark_support.specs.Powers.{power}

unfoldable pub evens : {K : Type 0} → List K → List K
evens [] = []
evens (c ∷ []) = c ∷ []
evens (c ∷ (d ∷ p)) = c ∷ evens p

unfoldable pub odds : {K : Type 0} → List K → List K
odds [] = []
odds (c ∷ []) = []
odds (c ∷ (d ∷ p)) = d ∷ odds p

-- the even coefficients plus beta times the odd ones
unfoldable pub folded : {K : Type 0} → RingOps K → K → List K → List K
folded ring beta [] = []
folded ring beta (c ∷ []) = c ∷ []
folded ring beta (c ∷ (d ∷ p)) = ring.add c (ring.mul beta d) ∷ folded ring beta p

-- The first `count` values of a polynomial at the powers of g, from the zeroth on.
pub record AreValuesAtPowers {K : Type 0} (ring : RingOps K) (g : K) (polynomial : List K) (count : ℕ) (values : List K) : Type 0 where
  pub number : length values ≡ count
  pub at_power : (i : ℕ) → i < count → slice_get values i ≡ Some (value ring polynomial (power ring g i))

-- Of each polynomial that takes the h + h values at the powers of g, the first n values at those of g^2, folded by x.
abbrev pub AreFoldedSoFar : {K : Type 0} → RingOps K → K → K → List K → ℕ → ℕ → List K → Type 0
AreFoldedSoFar {K} ring g x values h n done =
    (p : List K) → AreValuesAtPowers ring g p (h + h) values → AreValuesAtPowers ring (ring.mul g g) (folded ring x p) n done

-- A polynomial of no more coefficients than there are values takes them at the powers of g, and v at x.
pub record IsValueThrough {K : Type 0} (ring : RingOps K) (g : K) (values : List K) (x v : K) : Type 0 where
  pub polynomial : List K
  pub degree : HasDegreeBelow (length values) polynomial
  pub takes : AreValuesAtPowers ring g polynomial (length values) values
  pub value_is : value ring polynomial x ≡ v

-- Half as many values have at the square of x what the values have at x.
abbrev pub KeepsValues : {K : Type 0} → RingOps K → K → List K → K → K → List K → Type 0
KeepsValues {K} ring g values x h folded = (v : K) → IsValueThrough ring g values x v → IsValueThrough ring h folded (ring.mul x x) v
