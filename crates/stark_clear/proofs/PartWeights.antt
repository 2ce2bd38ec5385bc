-- The parts of a coset have equal weights in a recomposition.
use Rattle.std.proofs.Common.{◌≡◌, ◌≢◌, ◌∙◌, ℕ, zero, suc, ◌+◌, ◌-◌, List, [], ◌∷◌, ◌++◌, length, refl, sym, ap, arith}
use Rattle.stark_support.specs.Ring.{RingOps, FieldLaws, difference}
use Rattle.stark_support.specs.RingFacts.{mul_zero, one_mul}
use Rattle.stark_support.specs.RingSolver.{solve, ◌⊗◌, v0, v1, v2}
use Rattle.stark_support.specs.Powers.{power}
use Rattle.stark_support.specs.PowerFacts.{power-mul, power-one}
use Rattle.stark_support.specs.Coset.{coset_vanishing}
use Rattle.stark_support.specs.Recomposition.{lagrange_weight, weighted_sum, weighted_sum_from}
use Rattle.stark_clear.specs.Masks.{range}
use Rattle.stark_clear.proofs.MaskValues.{total}
use Rattle.stark_clear.proofs.Ranges.{first_place, from_zero, later_place, range_and_next}

one_later : (a n e : ℕ) → suc a + n + e ≡ a + suc n + e
one_later a n e = omega arith

gap : (a n e : ℕ) → a + suc n + e ≡ a + suc (e + n)
gap a n e = omega arith

zero_before : (m : ℕ) → 0 + m ≡ m
zero_before m = omega arith

one_more : (i r : ℕ) → suc (i + r) ≡ i + suc r
one_more i r = omega arith

round_again : (i r : ℕ) → i + (i + suc r) ≡ suc i + r + i
round_again i r = omega arith

all_but_one : (j k m : ℕ) → j + suc k ≡ m → j + k ≡ m - 1
all_but_one j k m h = omega arith

none_between : (i : ℕ) → 0 + i + 0 ≡ i
none_between i = omega arith

module _ {K : Type 0} {ring : RingOps K} {inverse : K → K} (laws : FieldLaws ring inverse) (n m : ℕ) (s : ℕ → K) (w : K)
    (nonzero : (j : ℕ) → s j ≢ ring.zero) (step : (j e : ℕ) → power ring (s (j + e)) n ≡ ring.mul (power ring (s j) n) (power ring w e)) (round : (i : ℕ) → power ring (s (i + m)) n ≡ power ring (s i) n) where
  unit_power : (j : ℕ) → ring.mul (power ring (s j) n) (power ring (inverse (s j)) n) ≡ ring.one
  unit_power j = sym (power-mul laws.of_ring (s j) (inverse (s j)) n) ∙ ap (λ t. power ring t n) (laws.mul_inverse (s j) (nonzero j)) ∙ power-one laws.of_ring n

  -- Z_j at a point whose n-th power is that of s (j + e) is w ^ e - 1.
  vanishing_at : (x : K) (j e : ℕ) → power ring x n ≡ power ring (s (j + e)) n → coset_vanishing ring (λ c. c) inverse n (s j) x ≡ difference ring (power ring w e) ring.one
  vanishing_at x j e same =
      ap (λ t. difference ring t ring.one)
      (power-mul laws.of_ring x (inverse (s j)) n ∙ ap (λ t. ring.mul t (power ring (inverse (s j)) n)) (same ∙ step j e)
      ∙ solve laws.of_ring (power ring (s j) n ∷ power ring w e ∷ power ring (inverse (s j)) n ∷ []) (v0 ⊗ v1 ⊗ v2) (v0 ⊗ v2 ⊗ v1) refl
      ∙ ap (λ t. ring.mul t (power ring w e)) (unit_power j) ∙ one_mul laws.of_ring (power ring w e))

  -- 1 / (w ^ (e + 1) - 1)
  abbrev factor : ℕ → K
  factor e = inverse (difference ring (power ring w (suc e)) ring.one)

  -- n of these factors, up from the e-th
  abbrev factors : ℕ → ℕ → K
  factors e zero = ring.one
  factors e (suc k) = ring.mul (factor (e + k)) (factors e k)

  weight_of_range : (x : K) (a k e : ℕ) → power ring x n ≡ power ring (s (a + k + e)) n → lagrange_weight ring inverse n (range s a k) x ≡ factors e k
  weight_of_range x a zero e same = refl
  weight_of_range x a (suc k) e same =
      ap (λ z. ring.mul (inverse z) (lagrange_weight ring inverse n (range s (suc a) k) x)) (vanishing_at x a (suc (e + k)) (same ∙ ap (λ i. power ring (s i) n) (gap a k e)))
      ∙ ap (ring.mul (factor (e + k))) (weight_of_range x (suc a) k e (same ∙ ap (λ i. power ring (s i) n) (sym (one_later a k e))))

  weight_of_append : (us vs : List K) (x : K) → lagrange_weight ring inverse n (us ++ vs) x ≡ ring.mul (lagrange_weight ring inverse n us x) (lagrange_weight ring inverse n vs x)
  weight_of_append [] vs x = sym (one_mul laws.of_ring _)
  weight_of_append (u ∷ us) vs x = ap (ring.mul _) (weight_of_append us vs x) ∙ sym (laws.of_ring.mul_assoc _ _ _)

  factors_joined : (i r : ℕ) → ring.mul (factors 0 i) (factors i r) ≡ factors 0 (i + r)
  factors_joined i zero = laws.of_ring.mul_one (factors 0 i) ∙ ap (factors 0) (first_place i)
  factors_joined i (suc r) =
      solve laws.of_ring (factors 0 i ∷ factor (i + r) ∷ factors i r ∷ []) (v0 ⊗ (v1 ⊗ v2)) (v1 ⊗ (v0 ⊗ v2)) refl
      ∙ ap (ring.mul (factor (i + r))) (factors_joined i r) ∙ ap (λ k. ring.mul (factor k) (factors 0 (i + r))) (from_zero (i + r)) ∙ ap (factors 0) (one_more i r)

  -- Each part's weight is the same.
  one_weight : (i r : ℕ) → i + suc r ≡ m → lagrange_weight ring inverse n (range s 0 i ++ range s (suc i) r) (s i) ≡ factors 0 (i + r)
  one_weight i r whole =
      weight_of_append (range s 0 i) (range s (suc i) r) (s i)
      ∙ ap (λ t. ring.mul t (lagrange_weight ring inverse n (range s (suc i) r) (s i))) (weight_of_range (s i) 0 i 0 (ap (λ k. power ring (s k) n) (sym (none_between i))))
      ∙ ap (ring.mul (factors 0 i)) (weight_of_range (s i) (suc i) r i (sym (round i) ∙ ap (λ k. power ring (s k) n) (ap (λ k. i + k) (sym whole) ∙ round_again i r)))
      ∙ factors_joined i r

  sum_from : (i r : ℕ) (weight : K) (values : List K) → i + r ≡ m → length values ≡ r → ((j k : ℕ) → j + suc k ≡ m → factors 0 (j + k) ≡ weight)
      → weighted_sum_from ring inverse n (range s 0 i) (range s i r) values ≡ ring.mul weight (total ring values)
  sum_from i zero weight [] whole number equal = sym (mul_zero laws.of_ring weight)
  sum_from i zero weight (v ∷ values) whole number equal = absurd (omega arith)
  sum_from i (suc r) weight [] whole number equal = absurd (omega arith)
  sum_from i (suc r) weight (v ∷ values) whole number equal =
      ap (λ t. ring.add (ring.mul t v) (weighted_sum_from ring inverse n (range s 0 i ++ (s i ∷ [])) (range s (suc i) r) values)) (one_weight i r whole ∙ equal i r whole)
      ∙ ap (λ t. ring.add (ring.mul weight v) (weighted_sum_from ring inverse n t (range s (suc i) r) values)) (ap (λ k. range s 0 i ++ (s k ∷ [])) (from_zero i) ∙ sym (range_and_next s 0 i))
      ∙ ap (ring.add (ring.mul weight v)) (sum_from (suc i) r weight values (later_place i r ∙ whole) (omega arith) equal)
      ∙ sym (laws.of_ring.mul_add weight v (total ring values))

  -- Values that sum to zero do so with the parts' weights.
  pub weighted_zero : (values : List K) → length values ≡ m → total ring values ≡ ring.zero → weighted_sum ring inverse n (range s 0 m) values ≡ ring.zero
  weighted_zero values number none =
      sum_from 0 m (factors 0 (m - 1)) values (zero_before m) number (λ j k whole. ap (factors 0) (all_but_one j k m whole)) ∙ ap (ring.mul (factors 0 (m - 1))) none ∙ mul_zero laws.of_ring (factors 0 (m - 1))
