-- The values of masked polynomials, and of masks that are taken off.
use Rattle.std.proofs.Common.{◌≡◌, ◌≢◌, ◌∙◌, ℕ, zero, suc, List, [], ◌∷◌, ◌++◌, length, map, replicate, refl, sym, ap}
use Rattle.std.proofs.lemmas.List.{length-map, map-append}
use Rattle.stark_support.specs.Ring.{RingOps, RingLaws, FieldLaws, difference}
use Rattle.stark_support.specs.RingSolver.{solve, nothing, unit, ◌⊕◌, ◌⊖◌, ◌⊗◌, v0, v1, v2, v3}
use Rattle.stark_support.specs.FieldFacts.{cancel_left}
use Rattle.stark_support.specs.KeepsRing.{KeepsRing, kept_power}
use Rattle.stark_support.specs.Powers.{power}
use Rattle.stark_support.specs.PowerFacts.{power-mul}
use Rattle.stark_support.specs.Polynomial.{polynomial_opposite, polynomial_ring, polynomial_sum, scaled, value, value_over}
use Rattle.stark_support.specs.PolynomialFacts.{value_of_difference, value_of_scaled}
use Rattle.stark_support.specs.Coset.{TwoAdicCoset, coset_size, coset_vanishing}
use Rattle.stark_columns.proofs.PowerSums.{value_of_append}
use Rattle.stark_clear.specs.Masks.{less_all, masked_polynomial, vanishing_scale}

-- the sum of a list
abbrev pub total : {K : Type 0} → RingOps K → List K → K
total ring [] = ring.zero
total ring (v ∷ vs) = ring.add v (total ring vs)

module _ {K : Type 0} {ring : RingOps K} (laws : RingLaws ring) where
  -- plain + mask * (scale x ^ n - 1)
  pub masked_value : (scale : K) (n : ℕ) (plain mask : List K) (x : K) → length plain ≡ n
      → value ring (masked_polynomial ring scale plain mask) x ≡ ring.add (value ring plain x) (ring.mul (value ring mask x) (difference ring (ring.mul (power ring x n) scale) ring.one))
  masked_value scale n plain mask x number =
      value_of_difference laws (plain ++ scaled ring scale mask) mask x ∙
      ap (λ w. difference ring w (value ring mask x)) (value_of_append laws (λ c. c) x plain (scaled ring scale mask)) ∙
      ap (λ w. difference ring (ring.add (value ring plain x) (ring.mul (power ring x (length plain)) w)) (value ring mask x)) (value_of_scaled laws scale mask x) ∙
      ap (λ k. difference ring (ring.add (value ring plain x) (ring.mul (power ring x k) (ring.mul scale (value ring mask x)))) (value ring mask x)) number ∙
      solve laws (value ring plain x ∷ power ring x n ∷ scale ∷ value ring mask x ∷ []) ((v0 ⊕ v1 ⊗ (v2 ⊗ v3)) ⊖ v3) (v0 ⊕ v3 ⊗ (v1 ⊗ v2 ⊖ unit)) refl

  value_less_all : (p : List K) (qs : List (List K)) (x : K) → value ring (less_all ring p qs) x ≡ difference ring (value ring p x) (total ring (map (λ q. value ring q x) qs))
  value_less_all p [] x = solve laws (value ring p x ∷ []) v0 (v0 ⊖ nothing) refl
  value_less_all p (q ∷ qs) x =
      value_less_all (difference (polynomial_ring ring) p q) qs x ∙ ap (λ w. difference ring w (total ring (map (λ q. value ring q x) qs))) (value_of_difference laws p q x) ∙
      solve laws (value ring p x ∷ value ring q x ∷ total ring (map (λ q. value ring q x) qs) ∷ []) (v0 ⊖ v1 ⊖ v2) (v0 ⊖ (v1 ⊕ v2)) refl

  value_of_none : (n : ℕ) (x : K) → value ring (replicate n ring.zero) x ≡ ring.zero
  value_of_none zero x = refl
  value_of_none (suc n) x = ap (λ w. ring.add ring.zero (ring.mul w x)) (value_of_none n x) ∙ solve laws (x ∷ []) (nothing ⊕ nothing ⊗ v0) nothing refl

  -- zero less all of these, and they, sum to zero
  pub balanced_value : (n : ℕ) (qs : List (List K)) (x : K) → ring.add (total ring (map (λ q. value ring q x) qs)) (value ring (less_all ring (replicate n ring.zero) qs) x) ≡ ring.zero
  balanced_value n qs x =
      let sum = total ring (map (λ q. value ring q x) qs) in
      ap (ring.add sum) (value_less_all (replicate n ring.zero) qs x ∙ ap (λ w. difference ring w (total ring (map (λ q. value ring q x) qs))) (value_of_none n x)) ∙
      solve laws (total ring (map (λ q. value ring q x) qs) ∷ []) (v0 ⊕ (nothing ⊖ v0)) nothing refl

  pub total_of_append : (us vs : List K) → total ring (us ++ vs) ≡ ring.add (total ring us) (total ring vs)
  total_of_append [] vs = solve laws (total ring vs ∷ []) v0 (nothing ⊕ v0) refl
  total_of_append (u ∷ us) vs = ap (ring.add u) (total_of_append us vs) ∙ sym (laws.add_assoc u (total ring us) (total ring vs))

-- ---- in an extension

module _ {F E : Type 0} {base : RingOps F} {ring : RingOps E} {embed : F → E} (keeps : KeepsRing base ring embed) where
  pub embedded_value : (p : List F) (x : E) → value_over ring embed p x ≡ value ring (map embed p) x
  embedded_value [] x = refl
  embedded_value (c ∷ p) x = ap (λ w. ring.add (embed c) (ring.mul w x)) (embedded_value p x)

  embedded_sum : (p q : List F) → map embed (polynomial_sum base p q) ≡ polynomial_sum ring (map embed p) (map embed q)
  embedded_sum [] q = refl
  embedded_sum (c ∷ p) [] = refl
  embedded_sum (c ∷ p) (d ∷ q) = ap (λ t. t ∷ map embed (polynomial_sum base p q)) (keeps.add c d) ∙ ap (λ t. ring.add (embed c) (embed d) ∷ t) (embedded_sum p q)

  embedded_opposite : (p : List F) → map embed (polynomial_opposite base p) ≡ polynomial_opposite ring (map embed p)
  embedded_opposite [] = refl
  embedded_opposite (c ∷ p) = ap (λ t. t ∷ map embed (polynomial_opposite base p)) (keeps.neg c) ∙ ap (λ t. ring.neg (embed c) ∷ t) (embedded_opposite p)

  embedded_difference : (p q : List F) → map embed (difference (polynomial_ring base) p q) ≡ difference (polynomial_ring ring) (map embed p) (map embed q)
  embedded_difference p q = embedded_sum p (polynomial_opposite base q) ∙ ap (polynomial_sum ring (map embed p)) (embedded_opposite q)

  embedded_scaled : (c : F) (p : List F) → map embed (scaled base c p) ≡ scaled ring (embed c) (map embed p)
  embedded_scaled c [] = refl
  embedded_scaled c (d ∷ p) = ap (λ t. t ∷ map embed (scaled base c p)) (keeps.mul c d) ∙ ap (λ t. ring.mul (embed c) (embed d) ∷ t) (embedded_scaled c p)

  embedded_masked : (scale : F) (plain mask : List F) → map embed (masked_polynomial base scale plain mask) ≡ masked_polynomial ring (embed scale) (map embed plain) (map embed mask)
  embedded_masked scale plain mask =
      embedded_difference (plain ++ scaled base scale mask) mask
      ∙ ap (λ t. difference (polynomial_ring ring) t (map embed mask)) (map-append embed plain (scaled base scale mask) ∙ ap (λ t. map embed plain ++ t) (embedded_scaled scale mask))

  embedded_less_all : (p : List F) (qs : List (List F)) → map embed (less_all base p qs) ≡ less_all ring (map embed p) (map (map embed) qs)
  embedded_less_all p [] = refl
  embedded_less_all p (q ∷ qs) = embedded_less_all (difference (polynomial_ring base) p q) qs ∙ ap (λ t. less_all ring t (map (map embed) qs)) (embedded_difference p q)

  embedded_none : (n : ℕ) → map embed (replicate n base.zero) ≡ replicate n ring.zero
  embedded_none zero = refl
  embedded_none (suc n) = ap (λ t. t ∷ map embed (replicate n base.zero)) keeps.zero ∙ ap (λ t. ring.zero ∷ t) (embedded_none n)

  embedded_values : (qs : List (List F)) (x : E) → map (λ q. value_over ring embed q x) qs ≡ map (λ q. value ring q x) (map (map embed) qs)
  embedded_values [] x = refl
  embedded_values (q ∷ qs) x = ap (λ t. t ∷ map (λ q. value_over ring embed q x) qs) (embedded_value q x) ∙ ap (λ t. value ring (map embed q) x ∷ t) (embedded_values qs x)

  module _ (laws : RingLaws ring) where
    masked_value_over : (scale : F) (n : ℕ) (plain mask : List F) (x : E) → length plain ≡ n
        → value_over ring embed (masked_polynomial base scale plain mask) x
        ≡ ring.add (value_over ring embed plain x) (ring.mul (value_over ring embed mask x) (difference ring (ring.mul (power ring x n) (embed scale)) ring.one))
    masked_value_over scale n plain mask x number =
        embedded_value (masked_polynomial base scale plain mask) x ∙ ap (λ t. value ring t x) (embedded_masked scale plain mask) ∙
        masked_value laws (embed scale) n (map embed plain) (map embed mask) x (length-map plain embed ∙ number) ∙
        ap (λ t. ring.add t (ring.mul (value ring (map embed mask) x) (difference ring (ring.mul (power ring x n) (embed scale)) ring.one))) (sym (embedded_value plain x)) ∙
        ap (λ t. ring.add (value_over ring embed plain x) (ring.mul t (difference ring (ring.mul (power ring x n) (embed scale)) ring.one))) (sym (embedded_value mask x))

    -- All masks of a column sum to zero.
    pub balanced_value_over : (n : ℕ) (qs : List (List F)) (x : E)
        → ring.add (total ring (map (λ q. value_over ring embed q x) qs)) (value_over ring embed (less_all base (replicate n base.zero) qs) x) ≡ ring.zero
    balanced_value_over n qs x =
        ap (λ t. ring.add (total ring t) (value_over ring embed (less_all base (replicate n base.zero) qs) x)) (embedded_values qs x) ∙
        ap (ring.add (total ring (map (λ q. value ring q x) (map (map embed) qs))))
        (embedded_value (less_all base (replicate n base.zero) qs) x
        ∙ ap (λ t. value ring t x) (embedded_less_all (replicate n base.zero) qs ∙ ap (λ t. less_all ring t (map (map embed) qs)) (embedded_none n))) ∙
        balanced_value laws n (map (map embed) qs) x

module _ {F E : Type 0} {base : RingOps F} {base_inverse : F → F} {ring : RingOps E} {inverse : E → E} {embed : F → E} (base_laws : FieldLaws base base_inverse) (laws : FieldLaws ring inverse) (keeps : KeepsRing base ring embed) where
  embedded_inverse : (s : F) → s ≢ base.zero → embed s ≢ ring.zero → embed (base_inverse s) ≡ inverse (embed s)
  embedded_inverse s nonzero above =
      cancel_left laws (embed s) (embed (base_inverse s)) (inverse (embed s)) above
      (sym (keeps.mul s (base_inverse s)) ∙ ap embed (base_laws.mul_inverse s nonzero) ∙ keeps.one ∙ sym (laws.mul_inverse (embed s) above))

  -- A masked polynomial on a coset is the plain one plus the mask times the coset's vanishing polynomial.
  pub masked_on_coset : (coset : TwoAdicCoset F) (plain mask : List F) (x : E) → coset.shift ≢ base.zero → embed coset.shift ≢ ring.zero → length plain ≡ coset_size coset
      → value_over ring embed (masked_polynomial base (vanishing_scale base base_inverse coset) plain mask) x
      ≡ ring.add (value_over ring embed plain x) (ring.mul (value_over ring embed mask x) (coset_vanishing ring (λ c. c) inverse (coset_size coset) (embed coset.shift) x))
  masked_on_coset coset plain mask x nonzero above number =
      let n = coset_size coset in
      masked_value_over keeps laws.of_ring (vanishing_scale base base_inverse coset) (coset_size coset) plain mask x number ∙
      ap (λ t. ring.add (value_over ring embed plain x) (ring.mul (value_over ring embed mask x) (difference ring (ring.mul (power ring x (coset_size coset)) t) ring.one)))
      (kept_power keeps (base_inverse coset.shift) (inverse (embed coset.shift)) (coset_size coset) (embedded_inverse coset.shift nonzero above)) ∙
      ap (λ t. ring.add (value_over ring embed plain x) (ring.mul (value_over ring embed mask x) (difference ring t ring.one))) (sym (power-mul laws.of_ring x (inverse (embed coset.shift)) (coset_size coset)))
