-- What follows from the axioms of a field.
use Rattle.std.specs.Prelude.{◌≡◌, ◌≢◌, ◌⊎◌, [], ◌∷◌, refl}
use Rattle.std.proofs.Common.{sym, ap, ◌∙◌, inl, inr}
use Rattle.stark_support.specs.Ring.{RingOps, FieldLaws}
use Rattle.stark_support.specs.RingFacts.{one_mul, mul_zero, unique_neg, same_if_no_difference}
use Rattle.stark_support.specs.RingSolver.{solve, unit, ◌⊕◌, ◌⊖◌, ◌⊗◌, v0, v1, v2}

module _ {K : Type 0} {ring : RingOps K} {inverse : K → K} (laws : FieldLaws ring inverse) where
  -- an element is zero or has its inverse
  pub zero_or_inverse : (x : K) → (x ≡ ring.zero) ⊎ (ring.mul x (inverse x) ≡ ring.one)
  zero_or_inverse x = elim (laws.decides x ring.zero) [ inl same ↦ inl same | inr other ↦ inr (laws.mul_inverse x other) ]

  -- a product is zero only where a factor is
  pub zero_factor : (x y : K) → x ≢ ring.zero → ring.mul x y ≡ ring.zero → y ≡ ring.zero
  zero_factor x y nonzero product =
      sym (one_mul laws.of_ring y) ∙
      ap (λ w. ring.mul w y) (sym (laws.mul_inverse x nonzero)) ∙
      solve laws.of_ring (x ∷ inverse x ∷ y ∷ []) (v0 ⊗ v1 ⊗ v2) (v1 ⊗ (v0 ⊗ v2)) refl ∙
      ap (ring.mul (inverse x)) product ∙
      mul_zero laws.of_ring (inverse x)

  pub one_factor_zero : (x y : K) → ring.mul x y ≡ ring.zero → (x ≡ ring.zero) ⊎ (y ≡ ring.zero)
  one_factor_zero x y product = elim (laws.decides x ring.zero) [ inl same ↦ inl same | inr other ↦ inr (zero_factor x y other product) ]

  pub nonzero_product : (x y : K) → x ≢ ring.zero → y ≢ ring.zero → ring.mul x y ≢ ring.zero
  nonzero_product x y h k e = k (zero_factor x y h e)

  pub cancel_left : (x y z : K) → x ≢ ring.zero → ring.mul x y ≡ ring.mul x z → y ≡ z
  cancel_left x y z nonzero h =
      same_if_no_difference laws.of_ring y z
      (zero_factor x (ring.add y (ring.neg z)) nonzero
      (solve laws.of_ring (x ∷ y ∷ z ∷ []) (v0 ⊗ (v1 ⊖ v2)) (v0 ⊗ v1 ⊖ v0 ⊗ v2) refl ∙ ap (λ w. ring.add w (ring.neg (ring.mul x z))) h ∙ laws.of_ring.add_neg _))

  pub divide_times : (x s : K) → s ≢ ring.zero → ring.mul (ring.mul x (inverse s)) s ≡ x
  divide_times x s nonzero =
      solve laws.of_ring (x ∷ s ∷ inverse s ∷ []) (v0 ⊗ v2 ⊗ v1) (v0 ⊗ (v1 ⊗ v2)) refl ∙ ap (ring.mul x) (laws.mul_inverse s nonzero) ∙ laws.of_ring.mul_one x

  -- a product divided by a factor is the other factor
  pub quotient_is : (z d q : K) → d ≢ ring.zero → ring.mul d q ≡ z → ring.mul z (inverse d) ≡ q
  quotient_is z d q nonzero product =
      ap (λ t. ring.mul t (inverse d)) (sym product) ∙ solve laws.of_ring (d ∷ q ∷ inverse d ∷ []) (v0 ⊗ v1 ⊗ v2) (v1 ⊗ (v0 ⊗ v2)) refl ∙ ap (ring.mul q) (laws.mul_inverse d nonzero) ∙ laws.of_ring.mul_one q

  pub inverse_one : inverse ring.one ≡ ring.one
  inverse_one = sym (one_mul laws.of_ring (inverse ring.one)) ∙ laws.mul_inverse ring.one laws.one_not_zero

  -- a square root of one is one or its opposite
  pub square_one : (s : K) → ring.mul s s ≡ ring.one → (s ≡ ring.one) ⊎ (s ≡ ring.neg ring.one)
  square_one s e = elim (one_factor_zero (ring.add s (ring.neg ring.one)) (ring.add s ring.one)
      (solve laws.of_ring (s ∷ []) ((v0 ⊖ unit) ⊗ (v0 ⊕ unit)) (v0 ⊗ v0 ⊖ unit) refl ∙ ap (λ w. ring.add w (ring.neg ring.one)) e ∙ laws.of_ring.add_neg _)) [
        | inl h ↦ inl (same_if_no_difference laws.of_ring s ring.one h)
        | inr h ↦ inr (unique_neg laws.of_ring ring.one s (laws.of_ring.add_comm ring.one s ∙ h))
      ]

-- the first of two values where x and y are the same element, else the second
abbrev pub if_same : {K V : Type 0} {ring : RingOps K} {inverse : K → K} → FieldLaws ring inverse → K → K → V → V → V
if_same laws x y same other = elim (laws.decides x y) [ inl e ↦ same | inr d ↦ other ]

module _ {K V : Type 0} {ring : RingOps K} {inverse : K → K} (laws : FieldLaws ring inverse) (x y : K) (same other : V) where
  pub if_same-same : x ≡ y → if_same laws x y same other ≡ same
  if_same-same e = elim (laws.decides x y) as (λ d. elim d [ inl e ↦ same | inr d ↦ other ] ≡ same) [ inl h ↦ refl | inr h ↦ absurd (h e) ]

  pub if_same-other : x ≢ y → if_same laws x y same other ≡ other
  if_same-other n = elim (laws.decides x y) as (λ d. elim d [ inl e ↦ same | inr d ↦ other ] ≡ other) [ inl h ↦ absurd (n h) | inr h ↦ refl ]
