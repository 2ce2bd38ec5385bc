-- One more point in Newton's form, from the last to the first.
use Rattle.std.proofs.Common.{◌≡◌, ◌≢◌, ◌∙◌, ℕ, zero, suc, ◌+◌, ◌<◌, List, [], ◌∷◌, length, drop, get_or, ap, sym, arith, subst}
use Rattle.stark_support.specs.Ring.{RingOps, FieldLaws, difference}
use Rattle.stark_support.specs.Polynomial.{value, polynomial_sum, scaled, IsWithoutRepeats}
use Rattle.stark_support.specs.Interpolation.{times_root, polynomial_with_roots, interpolation, TakesValues}
use Rattle.stark_support.specs.InterpolationFacts.{not_zero_elsewhere, interpolation_takes_values}
use Rattle.stark_support.proofs.Places.{from_place}

-- a part of a list without repeats has none
part_without_repeats : {K : Type 0} (xs : List K) (i : ℕ) → IsWithoutRepeats xs → IsWithoutRepeats (drop i xs)
part_without_repeats xs zero h = h
part_without_repeats [] (suc i) h = h
part_without_repeats (x ∷ xs) (suc i) h = part_without_repeats xs i h.1

module _ {K : Type 0} (ring : RingOps K) (inverse : K → K) (points values : List K) (i n : ℕ) (x v : K)
    (next : i + 1 ≡ n) (within : i < length points) (same_length : length points ≡ length values) (is_point : x ≡ get_or points i x) where
  -- the product over the later points isn't zero at this one
  pub not_zero_here : (laws : FieldLaws ring inverse) (product : List K) (at_point : K) → IsWithoutRepeats points → product ≡ polynomial_with_roots ring (drop n points) → at_point ≡ value ring product x → at_point ≢ ring.zero
  not_zero_here laws product at_point distinct is at_is e =
      let parts = subst IsWithoutRepeats (from_place points i n x next within is_point) (part_without_repeats points i distinct) in
      not_zero_elsewhere laws x (drop n points) parts.0 (ap (λ p. value ring p x) (sym is) ∙ sym at_is ∙ e)

  pub one_more_point : (polynomial product added polynomial' : List K) (factor : K) → v ≡ get_or values i v → polynomial ≡ interpolation ring inverse (drop n points) (drop n values) → product ≡ polynomial_with_roots ring (drop n points)
      → factor ≡ ring.mul (difference ring v (value ring polynomial x)) (inverse (value ring product x)) → added ≡ scaled ring factor product → polynomial' ≡ polynomial_sum ring polynomial added
      → polynomial' ≡ interpolation ring inverse (drop i points) (drop i values)
  one_more_point polynomial product added polynomial' factor is_value is_found is_product is_factor is_added sum =
      sum ∙ ap (polynomial_sum ring polynomial) (is_added ∙ ap (λ f. scaled ring f product) is_factor)
      ∙ ap (λ t. polynomial_sum ring polynomial (scaled ring (ring.mul (difference ring v (value ring polynomial x)) (inverse (value ring t x))) t)) is_product
      ∙ ap (λ t. polynomial_sum ring t (scaled ring (ring.mul (difference ring v (value ring t x)) (inverse (value ring (polynomial_with_roots ring (drop n points)) x))) (polynomial_with_roots ring (drop n points)))) is_found
      ∙ ap (λ t. interpolation ring inverse t (v ∷ drop n values)) (sym (from_place points i n x next within is_point))
      ∙ ap (interpolation ring inverse (drop i points)) (sym (from_place values i n v next (omega arith) is_value))

  pub one_more_factor : (product product' : List K) → product ≡ polynomial_with_roots ring (drop n points) → product' ≡ times_root ring x product → product' ≡ polynomial_with_roots ring (drop i points)
  one_more_factor product product' is_product times =
      times ∙ ap (times_root ring x) is_product ∙ ap (polynomial_with_roots ring) (sym (from_place points i n x next within is_point))

pub takes_all : {K : Type 0} {ring : RingOps K} {inverse : K → K} (laws : FieldLaws ring inverse) (points values polynomial : List K) (index : ℕ) → length points ≡ length values → IsWithoutRepeats points → index ≡ 0
    → polynomial ≡ interpolation ring inverse (drop index points) (drop index values) → TakesValues ring polynomial points values
takes_all {ring = ring} {inverse = inverse} laws points values polynomial index same_length distinct ended is =
    subst (λ p. TakesValues ring p points values) (sym (is ∙ ap (λ i. interpolation ring inverse (drop i points) (drop i values)) ended)) (interpolation_takes_values laws points values same_length distinct)
