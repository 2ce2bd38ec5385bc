-- What is built up by Newton's form takes the values.
use Rattle.std.specs.Prelude.{◌≡◌, ◌≢◌, suc, ◌≤◌, List, [], ◌∷◌, map, length, refl}
use Rattle.std.proofs.Common.{sym, ap, ◌∙◌, arith}
use Rattle.std.proofs.lemmas.List.{length-map}
use Rattle.std.specs.List.{AllByRecursion}
use Rattle.stark_support.specs.Ring.{RingOps, RingLaws, FieldLaws, difference}
use Rattle.stark_support.specs.RingFacts.{mul_zero, same_if_no_difference}
use Rattle.stark_support.specs.FieldFacts.{zero_factor, divide_times}
use Rattle.stark_support.specs.RingSolver.{solve, nothing, opposite_of, ◌⊕◌, ◌⊖◌, ◌⊗◌, v0, v1, v2}
use Rattle.stark_support.specs.Polynomial.{value, polynomial_sum, scaled, IsWithoutRepeats}
use Rattle.stark_support.specs.PolynomialFacts.{value_of_sum, value_of_scaled, value_of_constant}
use Rattle.stark_support.specs.Interpolation.{times_root, polynomial_with_roots, interpolation, TakesValues}

scaled_length : {K : Type 0} (ring : RingOps K) (c : K) (p : List K) → length (scaled ring c p) ≡ length p
scaled_length ring c p = length-map p (ring.mul c)

-- The longer of two polynomials gives their sum its length.
length_of_sum : {K : Type 0} (ring : RingOps K) (p q : List K) → length p ≤ length q → length (polynomial_sum ring p q) ≡ length q
length_of_sum ring [] q h = refl
length_of_sum ring (c ∷ p) [] h = absurd (omega arith)
length_of_sum ring (c ∷ p) (d ∷ q) h = ap suc (length_of_sum ring p q (omega arith))

length_of_sum_first : {K : Type 0} (ring : RingOps K) (p q : List K) → length q ≤ length p → length (polynomial_sum ring p q) ≡ length p
length_of_sum_first ring [] [] h = refl
length_of_sum_first ring [] (d ∷ q) h = absurd (omega arith)
length_of_sum_first ring (c ∷ p) [] h = refl
length_of_sum_first ring (c ∷ p) (d ∷ q) h = ap suc (length_of_sum_first ring p q (omega arith))

length_of_root : {K : Type 0} (ring : RingOps K) (r : K) (p : List K) → length (times_root ring r p) ≡ suc (length p)
length_of_root ring r p = length_of_sum_first ring (ring.zero ∷ p) (scaled ring (ring.neg r) p) (omega (arith, scaled_length ring (ring.neg r) p))

length_of_product : {K : Type 0} (ring : RingOps K) (rs : List K) → length (polynomial_with_roots ring rs) ≡ suc (length rs)
length_of_product ring [] = refl
length_of_product ring (r ∷ rs) = length_of_root ring r (polynomial_with_roots ring rs) ∙ ap suc (length_of_product ring rs)

pub interpolation_length : {K : Type 0} (ring : RingOps K) (inverse : K → K) (points values : List K) → length points ≡ length values → length (interpolation ring inverse points values) ≡ length points
interpolation_length ring inverse [] values h = refl
interpolation_length ring inverse (x ∷ xs) [] h = absurd (omega arith)
interpolation_length ring inverse (x ∷ xs) (v ∷ vs) h =
    let later = interpolation_length ring inverse xs vs (omega arith) in
    length_of_sum ring _ (scaled ring _ (polynomial_with_roots ring xs)) (omega (arith, later, scaled_length ring (ring.mul (difference ring v (value ring (interpolation ring inverse xs vs) x)) (inverse (value ring (polynomial_with_roots ring xs) x))) (polynomial_with_roots ring xs), length_of_product ring xs))
    ∙ scaled_length ring _ (polynomial_with_roots ring xs) ∙ length_of_product ring xs

module _ {K : Type 0} {ring : RingOps K} (laws : RingLaws ring) where
  value_of_root : (r : K) (p : List K) (x : K) → value ring (times_root ring r p) x ≡ ring.mul (difference ring x r) (value ring p x)
  value_of_root r p x =
      value_of_sum laws (ring.zero ∷ p) (scaled ring (ring.neg r) p) x ∙
      ap (λ w. ring.add (ring.add ring.zero (ring.mul (value ring p x) x)) w) (value_of_scaled laws (ring.neg r) p x) ∙
      solve laws (r ∷ x ∷ value ring p x ∷ []) (nothing ⊕ v2 ⊗ v1 ⊕ opposite_of v0 ⊗ v2) ((v1 ⊖ v0) ⊗ v2) refl

  no_factor : (x w : K) → ring.mul (difference ring x x) w ≡ ring.zero
  no_factor x w = solve laws (x ∷ w ∷ []) ((v0 ⊖ v0) ⊗ v1) nothing refl

  zero_at_more_roots : (r : K) (p ys : List K) → AllByRecursion (λ y. value ring p y ≡ ring.zero) ys → AllByRecursion (λ y. value ring (times_root ring r p) y ≡ ring.zero) ys
  zero_at_more_roots r p [] h = tt
  zero_at_more_roots r p (y ∷ ys) h = (value_of_root r p y ∙ ap (ring.mul (difference ring y r)) h.0 ∙ mul_zero laws _, zero_at_more_roots r p ys h.1)

  zero_at_roots : (rs : List K) → AllByRecursion (λ y. value ring (polynomial_with_roots ring rs) y ≡ ring.zero) rs
  zero_at_roots [] = tt
  zero_at_roots (r ∷ rs) =
      let product = polynomial_with_roots ring rs in
      (value_of_root r product r ∙ no_factor r _, zero_at_more_roots r product rs (zero_at_roots rs))

  -- a multiple of what is zero at the points changes no value there
  same_values : (p z : List K) (c : K) (ys : List K) → AllByRecursion (λ y. value ring z y ≡ ring.zero) ys → map (value ring (polynomial_sum ring p (scaled ring c z))) ys ≡ map (value ring p) ys
  same_values p z c [] h = refl
  same_values p z c (y ∷ ys) h =
      ap (λ w. w ∷ map (value ring (polynomial_sum ring p (scaled ring c z))) ys)
      (value_of_sum laws p (scaled ring c z) y ∙ ap (ring.add (value ring p y)) (value_of_scaled laws c z y ∙ ap (ring.mul c) h.0 ∙ mul_zero laws c) ∙ laws.add_zero _)
      ∙ ap (λ ws. value ring p y ∷ ws) (same_values p z c ys h.1)

module _ {K : Type 0} {ring : RingOps K} {inverse : K → K} (laws : FieldLaws ring inverse) where
  pub not_zero_elsewhere : (x : K) (rs : List K) → AllByRecursion (λ r. x ≢ r) rs → value ring (polynomial_with_roots ring rs) x ≢ ring.zero
  not_zero_elsewhere x [] apart e = laws.one_not_zero (sym (value_of_constant laws.of_ring ring.one x) ∙ e)
  not_zero_elsewhere x (r ∷ rs) apart e =
      let product = polynomial_with_roots ring rs in
      not_zero_elsewhere x rs apart.1
      (zero_factor laws (difference ring x r) (value ring product x) (λ h. apart.0 (same_if_no_difference laws.of_ring x r h)) (sym (value_of_root laws.of_ring r product x) ∙ e))

  -- what is added makes up the difference
  made_up : (s v z : K) → z ≢ ring.zero → ring.add s (ring.mul (ring.mul (difference ring v s) (inverse z)) z) ≡ v
  made_up s v z nonzero = ap (ring.add s) (divide_times laws (difference ring v s) z nonzero) ∙ solve laws.of_ring (s ∷ v ∷ []) (v0 ⊕ (v1 ⊖ v0)) v1 refl

  pub interpolation_takes : (points values : List K) → length points ≡ length values → IsWithoutRepeats points → map (value ring (interpolation ring inverse points values)) points ≡ values
  interpolation_takes [] [] h distinct = refl
  interpolation_takes [] (v ∷ vs) h distinct = absurd (omega arith)
  interpolation_takes (x ∷ xs) [] h distinct = absurd (omega arith)
  interpolation_takes (x ∷ xs) (v ∷ vs) h distinct =
      let later = interpolation ring inverse xs vs in
      let product = polynomial_with_roots ring xs in
      let factor = ring.mul (difference ring v (value ring later x)) (inverse (value ring product x)) in
      ap (λ w. w ∷ map (value ring (polynomial_sum ring later (scaled ring factor product))) xs)
      (value_of_sum laws.of_ring later (scaled ring factor product) x ∙ ap (ring.add (value ring later x)) (value_of_scaled laws.of_ring factor product x)
      ∙ made_up (value ring later x) v (value ring product x) (not_zero_elsewhere x xs distinct.0))
      ∙ ap (λ ws. v ∷ ws) (same_values laws.of_ring later product factor xs (zero_at_roots laws.of_ring xs) ∙ interpolation_takes xs vs (omega arith) distinct.1)

  pub interpolation_takes_values : (points values : List K) → length points ≡ length values → IsWithoutRepeats points → TakesValues ring (interpolation ring inverse points values) points values
  interpolation_takes_values points values h distinct = record { degree = interpolation_length ring inverse points values h; takes = interpolation_takes points values h distinct }
