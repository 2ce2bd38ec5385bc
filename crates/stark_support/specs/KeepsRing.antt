-- Maps that keep the operations of a ring, and so the formulas made of them.
use Rattle.std.specs.Prelude.{◌≡◌, ℕ, zero, suc, List, [], ◌∷◌, refl}
use Rattle.std.proofs.Common.{ap, ◌∙◌}
use Rattle.stark_support.specs.Ring.{RingOps, RingLaws, difference}
use Rattle.stark_support.specs.RingSolver.{solve, nothing, unit, ◌⊕◌, ◌⊗◌, v0}
use Rattle.stark_support.specs.Powers.{power, power_sum}
use Rattle.stark_support.specs.Polynomial.{value_over, value, polynomial_ring}
use Rattle.stark_support.specs.PolynomialFacts.{value_of_sum, value_of_product, value_of_opposite}

-- A map that keeps the operations.
pub record KeepsRing {E : Type 0} {G : Type 0} (from : RingOps E) (to : RingOps G) (f : E → G) : Type 0 where
  pub zero : f from.zero ≡ to.zero
  pub one : f from.one ≡ to.one
  pub add : (x y : E) → f (from.add x y) ≡ to.add (f x) (f y)
  pub mul : (x y : E) → f (from.mul x y) ≡ to.mul (f x) (f y)
  pub neg : (x : E) → f (from.neg x) ≡ to.neg (f x)

-- Taking the value at a point keeps the operations.
pub value_keeps : {K : Type 0} {ring : RingOps K} (laws : RingLaws ring) (x : K) → KeepsRing (polynomial_ring ring) ring (λ p. value ring p x)
value_keeps {ring = ring} laws x = record {
  zero = refl;
  one = solve laws (x ∷ []) (unit ⊕ nothing ⊗ v0) unit refl;
  add = λ p q. value_of_sum laws p q x;
  mul = λ p q. value_of_product laws p q x;
  neg = λ p. value_of_opposite laws p x;
}

module _ {E : Type 0} {G : Type 0} {from : RingOps E} {to : RingOps G} {f : E → G} (keeps : KeepsRing from to f) where
  pub kept_sum : (x y : E) (a b : G) → f x ≡ a → f y ≡ b → f (from.add x y) ≡ to.add a b
  kept_sum x y a b h k = keeps.add x y ∙ ap (λ w. to.add w (f y)) h ∙ ap (to.add a) k

  pub kept_product : (x y : E) (a b : G) → f x ≡ a → f y ≡ b → f (from.mul x y) ≡ to.mul a b
  kept_product x y a b h k = keeps.mul x y ∙ ap (λ w. to.mul w (f y)) h ∙ ap (to.mul a) k

  pub kept_difference : (x y : E) (a b : G) → f x ≡ a → f y ≡ b → f (difference from x y) ≡ difference to a b
  kept_difference x y a b h k = kept_sum x (from.neg y) a (to.neg b) h (keeps.neg y ∙ ap to.neg k)

  pub kept_power : (x : E) (a : G) (n : ℕ) → f x ≡ a → f (power from x n) ≡ power to a n
  unfolding power
  kept_power x a zero h = keeps.one
  kept_power x a (suc n) h = kept_product _ _ _ _ h (kept_power x a n h)

  pub kept_power_sum : (x : E) (a : G) (n : ℕ) → f x ≡ a → f (power_sum from x n) ≡ power_sum to a n
  unfolding power_sum
  kept_power_sum x a zero h = keeps.zero
  kept_power_sum x a (suc n) h = kept_sum _ _ _ _ (kept_power x a n h) (kept_power_sum x a n h)

  -- a polynomial's value, where the map keeps the constants too
  pub kept_value_over : {K : Type 0} (low : K → E) (high : K → G) → ((c : K) → f (low c) ≡ high c) → (p : List K) (x : E) (a : G) → f x ≡ a → f (value_over from low p x) ≡ value_over to high p a
  kept_value_over low high same [] x a h = keeps.zero
  kept_value_over low high same (c ∷ p) x a h = kept_sum _ _ _ _ (same c) (kept_product _ _ _ _ (kept_value_over low high same p x a h) h)
