-- Division by X ^ n - 1, and the values of a coset's vanishing polynomial on the other cosets of its group.
use Rattle.std.specs.Prelude.{◌≡◌, ◌≢◌, ℕ, zero, suc, ◌-◌, ◌<◌, ◌≤◌, List, [], ◌∷◌, length, take, drop, refl}
use Rattle.std.proofs.Common.{sym, ap, ◌∙◌, arith}
use Rattle.std.proofs.lemmas.List.{length-take, length-drop}
use Rattle.std.specs.List.{AllByRecursion}
use Rattle.stark_support.specs.Ring.{RingOps, RingLaws, FieldLaws, difference}
use Rattle.stark_support.specs.RingFacts.{one_mul, same_if_no_difference}
use Rattle.stark_support.specs.RingSolver.{solve, nothing, unit, ◌⊕◌, ◌⊖◌, ◌⊗◌, v0, v1, v2, v3, v4}
use Rattle.stark_support.specs.Powers.{power}
use Rattle.stark_support.specs.PowerFacts.{power-one, power-mul}
use Rattle.stark_support.specs.TwoAdic.{TwoAdicLaws, HasOrder}
use Rattle.stark_support.specs.Coset.{TwoAdicCoset, IsTwoAdicCoset, AreDisjoint, coset_point, coset_size, coset_vanishing, subgroup_vanishing}
use Rattle.stark_support.specs.CosetFacts.{only_on_points}
use Rattle.stark_support.specs.Polynomial.{value, polynomial_sum, IsRoot, IsZeroPolynomial, HasDegreeBelow}
use Rattle.stark_support.specs.PolynomialFacts.{value_of_sum, value_of_zeros, sum_length, zero_if_many_roots}
use Rattle.stark_support.specs.Points.{powers_from}
use Rattle.stark_support.specs.PointFacts.{powers_length, all_powers, powers_without_repeats, power_of_point, power_on_coset}

-- A quotient and a remainder of p by X ^ n - 1.
record Divided {K : Type 0} (ring : RingOps K) (n : ℕ) (p : List K) : Type 0 where
  quotient : List K
  remainder : List K
  quotient_length : HasDegreeBelow (length p - n) quotient
  remainder_length : HasDegreeBelow n remainder
  divides : (x : K) → value ring p x ≡ ring.add (ring.mul (subgroup_vanishing ring n x) (value ring quotient x)) (value ring remainder x)

taken_length : {K : Type 0} (n : ℕ) (p : List K) → length (take n p) ≤ n
taken_length n p = omega (arith, length-take n p)

dropped_length : {K : Type 0} (n : ℕ) (p : List K) → length (drop n p) ≤ length p - n
dropped_length n p = omega (arith, length-drop n p)

shorter : {K : Type 0} (n f : ℕ) (p : List K) → 1 ≤ n → length p ≤ suc f → length (drop n p) ≤ f
shorter n f p positive h = omega (arith, length-drop n p)

rest_fits : {K : Type 0} (n q : ℕ) (p : List K) → q ≤ length (drop n p) - n → q ≤ length p - n
rest_fits n q p h = omega (arith, length-drop n p)

module _ {K : Type 0} {ring : RingOps K} (laws : RingLaws ring) where
  value_of_parts : (n : ℕ) (p : List K) (x : K) → value ring p x ≡ ring.add (value ring (take n p) x) (ring.mul (power ring x n) (value ring (drop n p) x))
  unfolding power
  value_of_parts zero p x = solve laws (value ring p x ∷ []) v0 (nothing ⊕ unit ⊗ v0) refl
  value_of_parts (suc n) [] x = solve laws (power ring x (suc n) ∷ []) nothing (nothing ⊕ v0 ⊗ nothing) refl
  value_of_parts (suc n) (c ∷ p) x =
      ap (λ w. ring.add c (ring.mul w x)) (value_of_parts n p x) ∙
      solve laws (c ∷ x ∷ value ring (take n p) x ∷ power ring x n ∷ value ring (drop n p) x ∷ [])
      (v0 ⊕ (v2 ⊕ v3 ⊗ v4) ⊗ v1) (v0 ⊕ v2 ⊗ v1 ⊕ v1 ⊗ v3 ⊗ v4) refl

  -- low + x high, where high = (x - 1) q + r
  division_step : (l x h q r : K) → h ≡ ring.add (ring.mul (difference ring x ring.one) q) r
      → ring.add l (ring.mul x h) ≡ ring.add (ring.mul (difference ring x ring.one) (ring.add h q)) (ring.add l r)
  division_step l x h q r e =
      solve laws (l ∷ x ∷ h ∷ []) (v0 ⊕ v1 ⊗ v2) ((v1 ⊖ unit) ⊗ v2 ⊕ (v0 ⊕ v2)) refl ∙
      ap (λ w. ring.add (ring.mul (difference ring x ring.one) h) (ring.add l w)) e ∙
      solve laws (l ∷ x ∷ h ∷ q ∷ r ∷ []) ((v1 ⊖ unit) ⊗ v2 ⊕ (v0 ⊕ ((v1 ⊖ unit) ⊗ v3 ⊕ v4))) ((v1 ⊖ unit) ⊗ (v2 ⊕ v3) ⊕ (v0 ⊕ v4)) refl

  -- p is low + X ^ n high, and high is divided first
  divided : (n f : ℕ) (p : List K) → 1 ≤ n → length p ≤ f → Divided ring n p
  divided n f [] positive h = record {
    quotient = [];
    remainder = [];
    quotient_length = omega arith;
    remainder_length = omega arith;
    divides = λ x. solve laws (subgroup_vanishing ring n x ∷ []) nothing (v0 ⊗ nothing ⊕ nothing) refl;
  }
  divided n zero (c ∷ p) positive h = absurd (omega (arith, h))
  divided n (suc f) (c ∷ p) positive h =
      let low = take n (c ∷ p) in
      let high = drop n (c ∷ p) in
      let rest = divided n f high positive (shorter n f (c ∷ p) positive h) in
      record {
        quotient = polynomial_sum ring high rest.quotient;
        remainder = polynomial_sum ring low rest.remainder;
        quotient_length = sum_length ring high rest.quotient (length (c ∷ p) - n) (dropped_length n (c ∷ p)) (rest_fits n (length rest.quotient) (c ∷ p) rest.quotient_length);
        remainder_length = sum_length ring low rest.remainder n (taken_length n (c ∷ p)) rest.remainder_length;
        divides = λ x.
            value_of_parts n (c ∷ p) x ∙
            division_step (value ring low x) (power ring x n) (value ring high x) (value ring rest.quotient x) (value ring rest.remainder x) (rest.divides x) ∙
            ap (λ w. ring.add (ring.mul (subgroup_vanishing ring n x) w) (ring.add (value ring low x) (value ring rest.remainder x))) (sym (value_of_sum laws high rest.quotient x)) ∙
            ap (ring.add (ring.mul (subgroup_vanishing ring n x) (value ring (polynomial_sum ring high rest.quotient) x))) (sym (value_of_sum laws low rest.remainder x));
      }

  -- X ^ n - 1 is zero on the group of n points.
  pub vanishes_on_subgroup : (g : K) (n k : ℕ) → power ring g n ≡ ring.one → subgroup_vanishing ring n (power ring g k) ≡ ring.zero
  vanishes_on_subgroup g n k reaches = ap (λ w. difference ring w ring.one) (power_of_point laws g n k reaches) ∙ laws.add_neg ring.one

  root_of_remainder : (z q r v : K) → v ≡ ring.add (ring.mul z q) r → v ≡ ring.zero → z ≡ ring.zero → r ≡ ring.zero
  root_of_remainder z q r v e root vanishes =
      solve laws (q ∷ r ∷ []) v1 (nothing ⊗ v0 ⊕ v1) refl ∙ ap (λ w. ring.add (ring.mul w q) r) (sym vanishes) ∙ sym e ∙ root

  -- Where x and s have one n-th power, Z_o has one value.
  pub same_vanishing : (inverse : K → K) (n : ℕ) (o x s : K) → power ring x n ≡ power ring s n → coset_vanishing ring (λ c. c) inverse n o x ≡ coset_vanishing ring (λ c. c) inverse n o s
  same_vanishing inverse n o x s h =
      ap (λ w. difference ring w ring.one)
      (power-mul laws x (inverse o) n ∙ ap (λ w. ring.mul w (power ring (inverse o) n)) h ∙ sym (power-mul laws s (inverse o) n))

  -- Z_o is constant on each coset of the group.
  pub vanishing_on_coset : (inverse : K → K) (g : K) (n : ℕ) (o s : K) (k : ℕ) → power ring g n ≡ ring.one
      → coset_vanishing ring (λ c. c) inverse n o (ring.mul s (power ring g k)) ≡ coset_vanishing ring (λ c. c) inverse n o s
  vanishing_on_coset inverse g n o s k reaches = same_vanishing inverse n o (ring.mul s (power ring g k)) s (power_on_coset laws g s n k reaches)

-- A polynomial that p is X ^ n - 1 times.
pub record VanishingQuotient {K : Type 0} (ring : RingOps K) (n : ℕ) (p : List K) : Type 0 where
  pub quotient : List K
  pub bounded : HasDegreeBelow (length p - n) quotient
  pub divides : (x : K) → value ring p x ≡ ring.mul (subgroup_vanishing ring n x) (value ring quotient x)

module _ {K : Type 0} {ring : RingOps K} {inverse : K → K} (laws : FieldLaws ring inverse) where
  -- A polynomial that is zero on the group of n points is X ^ n - 1 times one of n coefficients less.
  pub vanishing_quotient : (g : K) (n : ℕ) (p : List K) → 1 ≤ n → HasOrder ring g n → ((k : ℕ) → k < n → value ring p (power ring g k) ≡ ring.zero) → VanishingQuotient ring n p
  vanishing_quotient g n p positive order vanishes =
      let d = divided laws.of_ring n (length p) p positive (omega arith) in
      let roots : AllByRecursion (IsRoot ring d.remainder) (powers_from ring g 0 n) =
      all_powers ring (IsRoot ring d.remainder) g n
      (λ k below. let x = power ring g k in
      root_of_remainder laws.of_ring (subgroup_vanishing ring n x) (value ring d.quotient x) (value ring d.remainder x) (value ring p x)
      (d.divides x) (vanishes k below) (vanishes_on_subgroup laws.of_ring g n k order.reaches)) in
      let zeros : IsZeroPolynomial ring d.remainder =
      zero_if_many_roots laws (powers_from ring g 0 n) d.remainder (rw (powers_length ring g 0 n) d.remainder_length) (powers_without_repeats laws.of_ring g n order) roots in
      record {
        quotient = d.quotient;
        bounded = d.quotient_length;
        divides = λ x. d.divides x ∙ ap (ring.add (ring.mul (subgroup_vanishing ring n x) (value ring d.quotient x))) (value_of_zeros laws.of_ring d.remainder x zeros) ∙ laws.of_ring.add_zero _;
      }

  -- Z_s is zero at s.
  pub own_vanishing : (n : ℕ) (s : K) → s ≢ ring.zero → coset_vanishing ring (λ c. c) inverse n s s ≡ ring.zero
  own_vanishing n s nonzero =
      ap (λ w. difference ring (power ring w n) ring.one) (laws.mul_inverse s nonzero) ∙
      ap (λ w. difference ring w ring.one) (power-one laws.of_ring n) ∙ laws.of_ring.add_neg ring.one

  -- Z_o is zero only where the n-th power is that of o.
  pub other_vanishing : (n : ℕ) (o s : K) → o ≢ ring.zero → power ring s n ≢ power ring o n → coset_vanishing ring (λ c. c) inverse n o s ≢ ring.zero
  other_vanishing n o s nonzero apart h =
      let reached : ring.mul (power ring s n) (power ring (inverse o) n) ≡ ring.one
      = sym (power-mul laws.of_ring s (inverse o) n) ∙ same_if_no_difference laws.of_ring (power ring (ring.mul s (inverse o)) n) ring.one h in
      let unit_power : ring.mul (power ring o n) (power ring (inverse o) n) ≡ ring.one
      = sym (power-mul laws.of_ring o (inverse o) n) ∙ ap (λ w. power ring w n) (laws.mul_inverse o nonzero) ∙ power-one laws.of_ring n in
      apart
      (sym (laws.of_ring.mul_one (power ring s n)) ∙
      ap (ring.mul (power ring s n)) (sym unit_power) ∙
      solve laws.of_ring (power ring s n ∷ power ring o n ∷ power ring (inverse o) n ∷ []) (v0 ⊗ (v1 ⊗ v2)) (v0 ⊗ v2 ⊗ v1) refl ∙
      ap (λ w. ring.mul w (power ring o n)) reached ∙
      one_mul laws.of_ring (power ring o n))

  -- On a coset that has no point in common with it, the vanishing value isn't zero.
  pub vanishing_off_coset : (adicity : ℕ) (root : ℕ → K) (generator : K) → TwoAdicLaws ring adicity root generator → (c d : TwoAdicCoset K) → IsTwoAdicCoset ring adicity d → AreDisjoint ring root c d
      → (i : ℕ) → coset_vanishing ring (λ y. y) inverse (coset_size d) d.shift (coset_point ring root c i) ≢ ring.zero
  vanishing_off_coset adicity root generator two_adic c d valid disjoint i h =
      let point = only_on_points laws adicity root generator two_adic d valid (coset_point ring root c i) h in
      disjoint.apart i point.0 point.2
