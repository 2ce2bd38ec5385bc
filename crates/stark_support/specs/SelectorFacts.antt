-- The selectors that the quotients of the vanishing value give are the written-out sums.
use Rattle.std.specs.Prelude.{◌≡◌, ◌≢◌, [], ◌∷◌, refl}
use Rattle.std.proofs.Common.{sym, ◌∙◌, ap}
use Rattle.stark_support.specs.Ring.{RingOps, FieldLaws, difference}
use Rattle.stark_support.specs.RingFacts.{one_mul, same_if_no_difference}
use Rattle.stark_support.specs.RingSolver.{solve, ◌⊖◌, ◌⊗◌, v0, v1, v2, v3}
use Rattle.stark_support.specs.FieldFacts.{quotient_is}
use Rattle.stark_support.specs.Powers.{power, power_sum}
use Rattle.stark_support.specs.PowerFacts.{power-mul, power-one, power_sum_telescopes}
use Rattle.stark_support.specs.Coset.{subgroup_vanishing}
use Rattle.stark_support.specs.Selectors.{Subgroup, first_row_selector, last_row_selector, transition_selector}

-- The subgroup's generator and its inverse, and a power of it that is one.
pub record IsSubgroup {K : Type 0} (ring : RingOps K) (inverse : K → K) (subgroup : Subgroup K) : Type 0 where
  pub generator_nonzero : subgroup.generator ≢ ring.zero
  pub inverse_is : subgroup.generator_inverse ≡ inverse subgroup.generator
  pub reaches : power ring subgroup.generator subgroup.size ≡ ring.one

module _ {K : Type 0} {ring : RingOps K} {inverse : K → K} (laws : FieldLaws ring inverse) (subgroup : Subgroup K) (is_subgroup : IsSubgroup ring inverse subgroup) (x : K) where
  -- (x - 1/h) times the last selector is the vanishing value
  pub last_times : ring.mul (transition_selector ring (λ c. c) subgroup x) (last_row_selector ring (λ c. c) subgroup x) ≡ subgroup_vanishing ring subgroup.size x
  last_times =
      let h = subgroup.generator in
      let i = subgroup.generator_inverse in
      let s = power_sum ring (ring.mul h x) subgroup.size in
      solve laws.of_ring (h ∷ i ∷ x ∷ s ∷ []) ((v2 ⊖ v1) ⊗ (v0 ⊗ v3)) ((v0 ⊗ v2 ⊖ v0 ⊗ v1) ⊗ v3) refl ∙
      ap (λ w. ring.mul (difference ring (ring.mul h x) w) s) (ap (ring.mul h) is_subgroup.inverse_is ∙ laws.mul_inverse h is_subgroup.generator_nonzero) ∙
      power_sum_telescopes laws.of_ring (ring.mul h x) subgroup.size ∙
      ap (λ w. difference ring w ring.one) (power-mul laws.of_ring h x subgroup.size ∙ ap (λ w. ring.mul w (power ring x subgroup.size)) is_subgroup.reaches ∙ one_mul laws.of_ring _)

  module _ (outside : subgroup_vanishing ring subgroup.size x ≢ ring.zero) where
    zero_difference : (y : K) → power ring y subgroup.size ≡ ring.one → difference ring x y ≢ ring.zero
    zero_difference y one e = outside (ap (λ w. difference ring w ring.one) (ap (λ t. power ring t subgroup.size) (same_if_no_difference laws.of_ring x y e) ∙ one) ∙ laws.of_ring.add_neg ring.one)

    pub not_first_point : difference ring x ring.one ≢ ring.zero
    not_first_point = zero_difference ring.one (power-one laws.of_ring subgroup.size)

    inverse_reaches : power ring subgroup.generator_inverse subgroup.size ≡ ring.one
    inverse_reaches =
        let h = subgroup.generator in
        let i = subgroup.generator_inverse in
        sym (laws.of_ring.mul_one _) ∙ ap (ring.mul (power ring i subgroup.size)) (sym is_subgroup.reaches) ∙ sym (power-mul laws.of_ring i h subgroup.size) ∙
        ap (λ t. power ring t subgroup.size) (laws.of_ring.mul_comm i h ∙ ap (ring.mul h) is_subgroup.inverse_is ∙ laws.mul_inverse h is_subgroup.generator_nonzero) ∙ power-one laws.of_ring subgroup.size

    pub not_last_point : transition_selector ring (λ c. c) subgroup x ≢ ring.zero
    not_last_point = zero_difference subgroup.generator_inverse inverse_reaches

    -- Z/(x - 1) is the sum of the powers of x
    pub first_is_quotient : ring.mul (subgroup_vanishing ring subgroup.size x) (inverse (difference ring x ring.one)) ≡ first_row_selector ring (λ c. c) subgroup x
    first_is_quotient = quotient_is laws _ (difference ring x ring.one) (power_sum ring x subgroup.size) not_first_point (power_sum_telescopes laws.of_ring x subgroup.size)

    -- Z/(x - 1/h) is the sum of h^(k+1) x^k
    pub last_is_quotient : ring.mul (subgroup_vanishing ring subgroup.size x) (inverse (transition_selector ring (λ c. c) subgroup x)) ≡ last_row_selector ring (λ c. c) subgroup x
    last_is_quotient = quotient_is laws _ (transition_selector ring (λ c. c) subgroup x) (last_row_selector ring (λ c. c) subgroup x) not_last_point last_times
