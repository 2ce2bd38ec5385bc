-- What holds of polynomials over every commutative ring, and of their roots over every field.
use Rattle.std.specs.Prelude.{◌≡◌, ◌≢◌, ◌⊎◌, ℕ, zero, suc, ◌+◌, ◌-◌, ◌≤◌, List, [], ◌∷◌, length, refl}
use Rattle.std.proofs.Common.{sym, ap, ◌∙◌, arith, inl, inr}
use Rattle.std.proofs.lemmas.List.{length-map}
use Rattle.std.specs.List.{AllByRecursion}
use Rattle.stark_support.specs.Ring.{RingOps, RingLaws, FieldLaws, difference}
use Rattle.stark_support.specs.RingFacts.{mul_zero, zero_add, same_if_no_difference}
use Rattle.stark_support.specs.RingSolver.{solve, nothing, unit, opposite_of, ◌⊕◌, ◌⊖◌, ◌⊗◌, v0, v1, v2, v3, v4}
use Rattle.stark_support.specs.FieldFacts.{zero_factor}
use Rattle.stark_support.specs.PowerFacts.{suc-add}
use Rattle.stark_support.specs.Polynomial.{value, polynomial_sum, scaled, polynomial_product, polynomial_opposite, polynomial_ring, indeterminate, constant_polynomial, IsZeroPolynomial, HasDegreeBelow, HasDegreeAtMost, IsRoot, IsWithoutRepeats, HoldsOfAtMost, quotient_by_root}

suc_below : (a b : ℕ) → a ≤ b → suc a ≤ suc b
suc_below a b h = omega arith

below_pred : (a b : ℕ) → suc a ≤ suc b → a ≤ b
below_pred a b h = omega arith

module _ {K : Type 0} (ring : RingOps K) where
  pub sum_length : (p q : List K) (n : ℕ) → HasDegreeBelow n p → HasDegreeBelow n q → HasDegreeBelow n (polynomial_sum ring p q)
  sum_length [] q n below_p below_q = below_q
  sum_length (c ∷ p) [] n below_p below_q = below_p
  sum_length (c ∷ p) (d ∷ q) zero below_p below_q = absurd (omega arith)
  sum_length (c ∷ p) (d ∷ q) (suc n) below_p below_q = suc_below _ _ (sum_length p q n (below_pred _ _ below_p) (below_pred _ _ below_q))

  pub opposite_length : (p : List K) (n : ℕ) → HasDegreeBelow n p → HasDegreeBelow n (polynomial_opposite ring p)
  opposite_length p n below = rw (length-map p ring.neg) below

  pub difference_length : (p q : List K) (n : ℕ) → HasDegreeBelow n p → HasDegreeBelow n q → HasDegreeBelow n (difference (polynomial_ring ring) p q)
  difference_length p q n below_p below_q = sum_length p (polynomial_opposite ring q) n below_p (opposite_length q n below_q)

  scaled_length : (c : K) (p : List K) (n : ℕ) → HasDegreeBelow n p → HasDegreeBelow n (scaled ring c p)
  scaled_length c p n below = rw (length-map p (ring.mul c)) below

  widened : (m n : ℕ) (p : List K) → HasDegreeAtMost n p → HasDegreeAtMost (m + n) p
  widened m n p h = omega arith

  -- The product of polynomials of degrees m and n has degree m + n.
  pub product_length : (p q : List K) (m n : ℕ) → HasDegreeAtMost m p → HasDegreeAtMost n q → HasDegreeAtMost (m + n) (polynomial_product ring p q)
  product_length [] q m n below_p below_q = omega arith
  product_length (c ∷ []) q m n below_p below_q = sum_length (scaled ring c q) (ring.zero ∷ []) (suc (m + n)) (scaled_length c q (suc (m + n)) (widened m n q below_q)) (omega arith)
  product_length (c ∷ (d ∷ p)) q zero n below_p below_q = absurd (omega arith)
  product_length (c ∷ (d ∷ p)) q (suc m) n below_p below_q =
      sum_length (scaled ring c q) (ring.zero ∷ polynomial_product ring (d ∷ p) q) (suc (suc m + n))
      (scaled_length c q (suc (suc m + n)) (widened (suc m) n q below_q))
      (rw (suc-add m n) (suc_below _ _ (product_length (d ∷ p) q m n (below_pred _ _ below_p) below_q)))

  pub quotient_length : (r : K) (p : List K) → length (quotient_by_root ring r p) ≡ length p - 1
  quotient_length r [] = refl
  quotient_length r (c ∷ []) = refl
  quotient_length r (c ∷ (d ∷ p)) = let before = quotient_length r (d ∷ p) in ap suc before ∙ omega arith

module _ {K : Type 0} {ring : RingOps K} (laws : RingLaws ring) where
  pub value_of_constant : (c x : K) → value ring (constant_polynomial c) x ≡ c
  value_of_constant c x = solve laws (c ∷ x ∷ []) (v0 ⊕ nothing ⊗ v1) v0 refl

  pub value_of_indeterminate : (x : K) → value ring (indeterminate ring) x ≡ x
  value_of_indeterminate x = solve laws (x ∷ []) (nothing ⊕ (unit ⊕ nothing ⊗ v0) ⊗ v0) v0 refl

  pub value_of_sum : (p q : List K) (x : K) → value ring (polynomial_sum ring p q) x ≡ ring.add (value ring p x) (value ring q x)
  value_of_sum [] q x = sym (zero_add laws _)
  value_of_sum (c ∷ p) [] x = sym (laws.add_zero _)
  value_of_sum (c ∷ p) (d ∷ q) x =
      ap (λ w. ring.add (ring.add c d) (ring.mul w x)) (value_of_sum p q x) ∙
      solve laws (c ∷ d ∷ x ∷ value ring p x ∷ value ring q x ∷ []) (v0 ⊕ v1 ⊕ (v3 ⊕ v4) ⊗ v2) (v0 ⊕ v3 ⊗ v2 ⊕ (v1 ⊕ v4 ⊗ v2)) refl

  pub value_of_scaled : (c : K) (p : List K) (x : K) → value ring (scaled ring c p) x ≡ ring.mul c (value ring p x)
  value_of_scaled c [] x = sym (mul_zero laws c)
  value_of_scaled c (d ∷ p) x =
      ap (λ w. ring.add (ring.mul c d) (ring.mul w x)) (value_of_scaled c p x) ∙
      solve laws (c ∷ d ∷ x ∷ value ring p x ∷ []) (v0 ⊗ v1 ⊕ v0 ⊗ v3 ⊗ v2) (v0 ⊗ (v1 ⊕ v3 ⊗ v2)) refl

  pub value_of_product : (p q : List K) (x : K) → value ring (polynomial_product ring p q) x ≡ ring.mul (value ring p x) (value ring q x)
  value_of_product [] q x = solve laws (value ring q x ∷ []) nothing (nothing ⊗ v0) refl
  value_of_product (c ∷ p) q x =
      value_of_sum (scaled ring c q) (ring.zero ∷ polynomial_product ring p q) x ∙
      ap (λ w. ring.add w (ring.add ring.zero (ring.mul (value ring (polynomial_product ring p q) x) x))) (value_of_scaled c q x) ∙
      ap (λ w. ring.add (ring.mul c (value ring q x)) (ring.add ring.zero (ring.mul w x))) (value_of_product p q x) ∙
      solve laws (c ∷ x ∷ value ring p x ∷ value ring q x ∷ []) (v0 ⊗ v3 ⊕ (nothing ⊕ v2 ⊗ v3 ⊗ v1)) ((v0 ⊕ v2 ⊗ v1) ⊗ v3) refl

  pub value_of_opposite : (p : List K) (x : K) → value ring (polynomial_opposite ring p) x ≡ ring.neg (value ring p x)
  value_of_opposite [] x = solve laws [] nothing (opposite_of nothing) refl
  value_of_opposite (c ∷ p) x =
      ap (λ w. ring.add (ring.neg c) (ring.mul w x)) (value_of_opposite p x) ∙
      solve laws (c ∷ x ∷ value ring p x ∷ []) (opposite_of v0 ⊕ opposite_of v2 ⊗ v1) (opposite_of (v0 ⊕ v2 ⊗ v1)) refl

  pub value_of_difference : (p q : List K) (x : K) → value ring (difference (polynomial_ring ring) p q) x ≡ difference ring (value ring p x) (value ring q x)
  value_of_difference p q x = value_of_sum p (polynomial_opposite ring q) x ∙ ap (ring.add (value ring p x)) (value_of_opposite q x)

  -- p(x) is (x - r) times the quotient at x, and the remainder p(r).
  pub factor_step : (r : K) (p : List K) (x : K) → value ring p x ≡ ring.add (ring.mul (difference ring x r) (value ring (quotient_by_root ring r p) x)) (value ring p r)
  factor_step r [] x = solve laws (x ∷ r ∷ []) nothing ((v0 ⊖ v1) ⊗ nothing ⊕ nothing) refl
  factor_step r (c ∷ []) x = solve laws (c ∷ x ∷ r ∷ []) (v0 ⊕ nothing ⊗ v1) ((v1 ⊖ v2) ⊗ nothing ⊕ (v0 ⊕ nothing ⊗ v2)) refl
  factor_step r (c ∷ (d ∷ p)) x =
      ap (λ w. ring.add c (ring.mul w x)) (factor_step r (d ∷ p) x) ∙
      solve laws (c ∷ x ∷ r ∷ value ring (quotient_by_root ring r (d ∷ p)) x ∷ value ring (d ∷ p) r ∷ [])
      (v0 ⊕ ((v1 ⊖ v2) ⊗ v3 ⊕ v4) ⊗ v1)
      ((v1 ⊖ v2) ⊗ (v4 ⊕ v3 ⊗ v1) ⊕ (v0 ⊕ v4 ⊗ v2))
      refl

  -- A polynomial with the root r is X - r times one of lower degree.
  pub factor_of_root : (r : K) (p : List K) (x : K) → IsRoot ring p r → value ring p x ≡ ring.mul (difference ring x r) (value ring (quotient_by_root ring r p) x)
  factor_of_root r p x root = factor_step r p x ∙ ap (ring.add (ring.mul (difference ring x r) (value ring (quotient_by_root ring r p) x))) root ∙ laws.add_zero _

  pub value_of_zeros : (p : List K) (x : K) → IsZeroPolynomial ring p → value ring p x ≡ ring.zero
  value_of_zeros [] x zeros = refl
  value_of_zeros (c ∷ p) x zeros =
      ap (λ w. ring.add w (ring.mul (value ring p x) x)) zeros.0 ∙
      ap (λ w. ring.add ring.zero (ring.mul w x)) (value_of_zeros p x zeros.1) ∙
      solve laws (x ∷ []) (nothing ⊕ nothing ⊗ v0) nothing refl

  -- where the quotient is zero, only the constant is left
  zero_if_quotient_zero : (r : K) (p : List K) → IsZeroPolynomial ring (quotient_by_root ring r p) → IsRoot ring p r → IsZeroPolynomial ring p
  zero_if_quotient_zero r [] zeros root = tt
  zero_if_quotient_zero r (c ∷ []) zeros root = (sym (value_of_constant c r) ∙ root, tt)
  zero_if_quotient_zero r (c ∷ (d ∷ p)) zeros root =
      let rest : IsZeroPolynomial ring (d ∷ p) = zero_if_quotient_zero r (d ∷ p) zeros.1 zeros.0 in
      let constant : c ≡ ring.zero
      = sym (value_of_constant c r) ∙ ap (λ w. ring.add c (ring.mul w r)) (sym (value_of_zeros (d ∷ p) r rest)) ∙ root in
      (constant, rest)

through : (a b c : ℕ) → a ≤ b → b ≤ c → a ≤ c
through a b c h k = omega arith

at_most_or_more : (d n : ℕ) → (n ≤ d) ⊎ (d + 1 ≤ n)
at_most_or_more d n = grind arith

module _ {K : Type 0} {ring : RingOps K} {inverse : K → K} (laws : FieldLaws ring inverse) where
  -- the other roots are roots of the quotient
  roots_of_quotient : (r : K) (p : List K) → IsRoot ring p r → (xs : List K) → AllByRecursion (λ y. r ≢ y) xs → AllByRecursion (IsRoot ring p) xs → AllByRecursion (IsRoot ring (quotient_by_root ring r p)) xs
  roots_of_quotient r p root [] others roots = tt
  roots_of_quotient r p root (x ∷ xs) others roots =
      let apart : difference ring x r ≢ ring.zero = λ h. others.0 (sym (same_if_no_difference laws.of_ring x r h)) in
      (zero_factor laws _ _ apart (sym (factor_of_root laws.of_ring r p x root) ∙ roots.0), roots_of_quotient r p root xs others.1 roots.1)

  -- A polynomial with as many roots as coefficients is zero.
  pub zero_if_many_roots : (xs : List K) (p : List K) → HasDegreeBelow (length xs) p → IsWithoutRepeats xs → AllByRecursion (IsRoot ring p) xs → IsZeroPolynomial ring p
  zero_if_many_roots [] [] few distinct roots = tt
  zero_if_many_roots [] (c ∷ p) few distinct roots = absurd (omega arith)
  zero_if_many_roots (x ∷ xs) p few distinct roots =
      let shorter : HasDegreeBelow (length xs) (quotient_by_root ring x p) = rw (quotient_length ring x p) (omega arith) in
      let zeros = zero_if_many_roots xs (quotient_by_root ring x p) shorter distinct.1 (roots_of_quotient x p roots.0 xs distinct.0 roots.1) in
      zero_if_quotient_zero laws.of_ring x p zeros roots.0

  -- A polynomial of degree at most d that isn't zero has at most d roots.
  pub few_roots : (d : ℕ) (p : List K) → HasDegreeBelow (d + 1) p → (IsZeroPolynomial ring p → ⊥) → HoldsOfAtMost d (IsRoot ring p)
  few_roots d p bound nonzero xs distinct roots =
      elim (at_most_or_more d (length xs)) [
        | inl few ↦ few
        | inr many ↦ absurd (nonzero (zero_if_many_roots xs p (through _ _ _ bound many) distinct roots))
      ]

  difference_roots : (p q : List K) (xs : List K) → AllByRecursion (λ x. value ring p x ≡ value ring q x) xs → AllByRecursion (IsRoot ring (difference (polynomial_ring ring) p q)) xs
  difference_roots p q [] agree = tt
  difference_roots p q (x ∷ xs) agree =
      (value_of_difference laws.of_ring p q x ∙ ap (λ w. difference ring w (value ring q x)) agree.0 ∙ laws.of_ring.add_neg _, difference_roots p q xs agree.1)

  -- Polynomials of degree below n with equal values at n points are equal everywhere.
  pub interpolation_unique : (n : ℕ) (p q : List K) (xs : List K) → HasDegreeBelow n p → HasDegreeBelow n q → n ≤ length xs → IsWithoutRepeats xs
      → AllByRecursion (λ x. value ring p x ≡ value ring q x) xs → (x : K) → value ring p x ≡ value ring q x
  interpolation_unique n p q xs below_p below_q many distinct agree x =
      let less = difference (polynomial_ring ring) p q in
      let zeros = zero_if_many_roots xs less (through _ _ _ (difference_length ring p q n below_p below_q) many) distinct (difference_roots p q xs agree) in
      same_if_no_difference laws.of_ring _ _ (sym (value_of_difference laws.of_ring p q x) ∙ value_of_zeros laws.of_ring less x zeros)
