-- The degrees of the formulas of polynomials.
use Rattle.std.specs.Prelude.{ℕ, zero, suc, ◌+◌, ◌*◌, ◌≤◌, List, [], ◌∷◌, length}
use Rattle.std.proofs.Common.{arith}
use Rattle.stark_support.specs.Ring.{RingOps, difference}
use Rattle.stark_support.specs.Powers.{power, power_sum}
use Rattle.stark_support.specs.Polynomial.{value_over, polynomial_sum, polynomial_product, polynomial_opposite, polynomial_ring, constant_polynomial, HasDegreeAtMost}
use Rattle.stark_support.specs.PolynomialFacts.{sum_length, opposite_length, difference_length, product_length}

raised : (a b n : ℕ) → a ≤ b → n ≤ suc a → n ≤ suc b
raised a b n h k = omega arith

one_more_times : (d n : ℕ) → n * d + d ≤ suc n * d
one_more_times d n = omega arith

one_more_before : (d n : ℕ) → d + n * d ≤ suc n * d
one_more_before d n = omega arith

module _ {K : Type 0} (ring : RingOps K) where
  pub at_most_more : (d e : ℕ) (p : List K) → d ≤ e → HasDegreeAtMost d p → HasDegreeAtMost e p
  at_most_more d e p less h = raised d e (length p) less h

  pub degree_of_sum : (d : ℕ) (p q : List K) → HasDegreeAtMost d p → HasDegreeAtMost d q → HasDegreeAtMost d (polynomial_sum ring p q)
  degree_of_sum d p q h k = sum_length ring p q (suc d) h k

  pub degree_of_opposite : (d : ℕ) (p : List K) → HasDegreeAtMost d p → HasDegreeAtMost d (polynomial_opposite ring p)
  degree_of_opposite d p h = opposite_length ring p (suc d) h

  pub degree_of_difference : (d : ℕ) (p q : List K) → HasDegreeAtMost d p → HasDegreeAtMost d q → HasDegreeAtMost d (difference (polynomial_ring ring) p q)
  degree_of_difference d p q h k = difference_length ring p q (suc d) h k

  pub degree_of_power : (d : ℕ) (p : List K) (n : ℕ) → HasDegreeAtMost d p → HasDegreeAtMost (n * d) (power (polynomial_ring ring) p n)
  unfolding power
  degree_of_power d p zero h = omega arith
  degree_of_power d p (suc n) h =
      at_most_more (d + n * d) (suc n * d) (polynomial_product ring p (power (polynomial_ring ring) p n)) (one_more_before d n)
      (product_length ring p (power (polynomial_ring ring) p n) d (n * d) h (degree_of_power d p n h))

  pub degree_of_power_sum : (d : ℕ) (p : List K) (n : ℕ) → HasDegreeAtMost 1 p → n ≤ suc d → HasDegreeAtMost d (power_sum (polynomial_ring ring) p n)
  unfolding power_sum
  degree_of_power_sum d p zero h k = omega arith
  degree_of_power_sum d p (suc n) h k =
      degree_of_sum d (power (polynomial_ring ring) p n) (power_sum (polynomial_ring ring) p n)
      (at_most_more (n * 1) d (power (polynomial_ring ring) p n) (omega (arith, k)) (degree_of_power 1 p n h))
      (degree_of_power_sum d p n h (omega (arith, k)))

  -- a factor of degree 0 leaves the degree
  pub degree_of_multiple : (d : ℕ) (p q : List K) → HasDegreeAtMost 0 p → HasDegreeAtMost d q → HasDegreeAtMost d (polynomial_product ring p q)
  degree_of_multiple d p q h k = at_most_more (0 + d) d (polynomial_product ring p q) (omega arith) (product_length ring p q 0 d h k)

  -- A polynomial of degree n, at a polynomial of degree d, has degree n d.
  pub degree_of_value_over : (d n : ℕ) (p q : List K) → HasDegreeAtMost n p → HasDegreeAtMost d q → HasDegreeAtMost (n * d) (value_over (polynomial_ring ring) constant_polynomial p q)
  degree_of_value_over d n [] q h k = omega arith
  degree_of_value_over d zero (c ∷ []) q h k = omega arith
  degree_of_value_over d zero (c ∷ (b ∷ p)) q h k = absurd (omega (arith, h))
  degree_of_value_over d (suc n) (c ∷ p) q h k =
      degree_of_sum (suc n * d) (constant_polynomial c) (polynomial_product ring (value_over (polynomial_ring ring) constant_polynomial p q) q) (omega arith)
      (at_most_more (n * d + d) (suc n * d) (polynomial_product ring (value_over (polynomial_ring ring) constant_polynomial p q) q) (one_more_times d n)
      (product_length ring (value_over (polynomial_ring ring) constant_polynomial p q) q (n * d) d (degree_of_value_over d n p q (omega (arith, h)) k) k))
