-- A word on a coset that is no codeword folds to a codeword for at most one beta.
use Rattle.std.specs.Prelude.{◌≡◌, ◌≢◌, ℕ, zero, suc, ◌+◌, ◌*◌, ◌^◌, ◌<◌, ◌≤◌, List, [], ◌∷◌, refl}
use Rattle.std.proofs.Common.{sym, ap, ◌∙◌, arith}
use Rattle.std.proofs.lemmas.List.{length-map}
use Rattle.stark_support.specs.Ring.{RingOps, RingLaws, FieldLaws, difference}
use Rattle.stark_support.specs.RingFacts.{neg_mul, one_mul, same_if_no_difference}
use Rattle.stark_support.specs.RingSolver.{Expression, variable, solve, nothing, unit, ◌⊕◌, ◌⊖◌, ◌⊗◌, v0, v1, v2, v3, v4, v5}
use Rattle.stark_support.specs.Polynomial.{value, polynomial_ring, scaled, HasDegreeBelow}
use Rattle.stark_support.specs.PolynomialFacts.{difference_length, value_of_difference, value_of_scaled}
use Rattle.stark_support.specs.TwoAdic.{TwoAdicLaws}
use Rattle.stark_support.specs.Coset.{TwoAdicCoset, IsTwoAdicCoset, coset_point}
use Rattle.stark_support.specs.CosetFacts.{point_nonzero}
use Rattle.stark_folding.specs.Fold.{folded_pair, half_of, squared_coset}
use Rattle.stark_folding.specs.FoldFacts.{opposite_point, opposite_squared, squared_point, two_nonzero}

abbrev v6 : Expression
v6 = variable 6

-- The polynomial with these even and odd coefficients.
unfoldable pub interleaved : {K : Type 0} → RingOps K → List K → List K → List K
interleaved ring [] [] = []
interleaved ring [] (o ∷ os) = ring.zero ∷ (o ∷ interleaved ring [] os)
interleaved ring (e ∷ es) [] = e ∷ (ring.zero ∷ interleaved ring es [])
interleaved ring (e ∷ es) (o ∷ os) = e ∷ (o ∷ interleaved ring es os)

two_more : (n m : ℕ) → m ≤ 2 * n → suc (suc m) ≤ 2 * suc n
two_more n m h = omega arith

less : (n m : ℕ) → suc m ≤ suc n → m ≤ n
less n m h = omega arith

module _ {K : Type 0} (ring : RingOps K) where
  interleaved_length : (es os : List K) (n : ℕ) → HasDegreeBelow n es → HasDegreeBelow n os → HasDegreeBelow (2 * n) (interleaved ring es os)
  unfolding interleaved
  interleaved_length [] [] n h k = omega arith
  interleaved_length [] (o ∷ os) zero h k = absurd (omega arith)
  interleaved_length [] (o ∷ os) (suc n) h k = two_more n _ (interleaved_length [] os n (omega arith) (less n _ k))
  interleaved_length (e ∷ es) [] zero h k = absurd (omega arith)
  interleaved_length (e ∷ es) [] (suc n) h k = two_more n _ (interleaved_length es [] n (less n _ h) (omega arith))
  interleaved_length (e ∷ es) (o ∷ os) zero h k = absurd (omega arith)
  interleaved_length (e ∷ es) (o ∷ os) (suc n) h k = two_more n _ (interleaved_length es os n (less n _ h) (less n _ k))

module _ {K : Type 0} {ring : RingOps K} (laws : RingLaws ring) where
  value_of_interleaved : (es os : List K) (x : K) → value ring (interleaved ring es os) x ≡ ring.add (value ring es (ring.mul x x)) (ring.mul x (value ring os (ring.mul x x)))
  unfolding interleaved
  value_of_interleaved [] [] x = solve laws (x ∷ []) nothing (nothing ⊕ v0 ⊗ nothing) refl
  value_of_interleaved [] (o ∷ os) x =
      ap (λ w. ring.add ring.zero (ring.mul (ring.add o (ring.mul w x)) x)) (value_of_interleaved [] os x) ∙
      solve laws (o ∷ x ∷ value ring os (ring.mul x x) ∷ []) (nothing ⊕ (v0 ⊕ (nothing ⊕ v1 ⊗ v2) ⊗ v1) ⊗ v1) (nothing ⊕ v1 ⊗ (v0 ⊕ v2 ⊗ (v1 ⊗ v1))) refl
  value_of_interleaved (e ∷ es) [] x =
      ap (λ w. ring.add e (ring.mul (ring.add ring.zero (ring.mul w x)) x)) (value_of_interleaved es [] x) ∙
      solve laws (e ∷ x ∷ value ring es (ring.mul x x) ∷ []) (v0 ⊕ (nothing ⊕ (v2 ⊕ v1 ⊗ nothing) ⊗ v1) ⊗ v1) (v0 ⊕ v2 ⊗ (v1 ⊗ v1) ⊕ v1 ⊗ nothing) refl
  value_of_interleaved (e ∷ es) (o ∷ os) x =
      ap (λ w. ring.add e (ring.mul (ring.add o (ring.mul w x)) x)) (value_of_interleaved es os x) ∙
      solve laws (e ∷ o ∷ x ∷ value ring es (ring.mul x x) ∷ value ring os (ring.mul x x) ∷ []) (v0 ⊕ (v1 ⊕ (v3 ⊕ v2 ⊗ v4) ⊗ v2) ⊗ v2) (v0 ⊕ v3 ⊗ (v2 ⊗ v2) ⊕ v2 ⊗ (v1 ⊕ v4 ⊗ (v2 ⊗ v2))) refl

module _ {K : Type 0} {ring : RingOps K} {inverse : K → K} (laws : FieldLaws ring inverse) (beta gamma : K) (apart : beta ≢ gamma) where
  abbrev gap : K
  gap = inverse (difference ring beta gamma)

  gap_is : ring.mul gap (difference ring beta gamma) ≡ ring.one
  gap_is = laws.of_ring.mul_comm _ _ ∙ laws.mul_inverse (difference ring beta gamma) (λ e. apart (same_if_no_difference laws.of_ring beta gamma e))

  module _ (x a b : K) (two : ring.add ring.one ring.one ≢ ring.zero) (nonzero : x ≢ ring.zero) where
    abbrev h : K
    h = half_of ring inverse

    abbrev i : K
    i = inverse x

    -- what the two folds say of the odd part
    odd_part : ring.mul gap (difference ring (folded_pair ring inverse beta x a b) (folded_pair ring inverse gamma x a b)) ≡ ring.mul h (ring.mul i (difference ring a b))
    odd_part =
        solve laws.of_ring (gap ∷ h ∷ i ∷ beta ∷ gamma ∷ a ∷ b ∷ [])
        (v0 ⊗ (v1 ⊗ (v5 ⊕ v6 ⊕ v3 ⊗ v2 ⊗ (v5 ⊖ v6)) ⊖ v1 ⊗ (v5 ⊕ v6 ⊕ v4 ⊗ v2 ⊗ (v5 ⊖ v6))))
        (v0 ⊗ (v3 ⊖ v4) ⊗ (v1 ⊗ (v2 ⊗ (v5 ⊖ v6))))
        refl ∙
        ap (λ t. ring.mul t (ring.mul h (ring.mul i (difference ring a b)))) gap_is ∙ one_mul laws.of_ring _

    even_part : difference ring (folded_pair ring inverse beta x a b) (ring.mul beta (ring.mul h (ring.mul i (difference ring a b)))) ≡ ring.mul h (ring.add a b)
    even_part = solve laws.of_ring (h ∷ i ∷ beta ∷ a ∷ b ∷ []) (v0 ⊗ (v3 ⊕ v4 ⊕ v2 ⊗ v1 ⊗ (v3 ⊖ v4)) ⊖ v2 ⊗ (v0 ⊗ (v1 ⊗ (v3 ⊖ v4)))) (v0 ⊗ (v3 ⊕ v4)) refl

    first_back : ring.add (ring.mul h (ring.add a b)) (ring.mul x (ring.mul h (ring.mul i (difference ring a b)))) ≡ a
    first_back =
        solve laws.of_ring (h ∷ i ∷ x ∷ a ∷ b ∷ []) (v0 ⊗ (v3 ⊕ v4) ⊕ v2 ⊗ (v0 ⊗ (v1 ⊗ (v3 ⊖ v4)))) (v0 ⊗ (v3 ⊕ v4) ⊕ v2 ⊗ v1 ⊗ (v0 ⊗ (v3 ⊖ v4))) refl ∙
        ap (λ t. ring.add (ring.mul h (ring.add a b)) (ring.mul t (ring.mul h (difference ring a b)))) (laws.mul_inverse x nonzero) ∙
        solve laws.of_ring (h ∷ a ∷ b ∷ []) (v0 ⊗ (v1 ⊕ v2) ⊕ unit ⊗ (v0 ⊗ (v1 ⊖ v2))) ((unit ⊕ unit) ⊗ v0 ⊗ v1) refl ∙
        ap (λ t. ring.mul t a) (laws.mul_inverse (ring.add ring.one ring.one) two) ∙ one_mul laws.of_ring a

    second_back : difference ring (ring.mul h (ring.add a b)) (ring.mul x (ring.mul h (ring.mul i (difference ring a b)))) ≡ b
    second_back =
        solve laws.of_ring (h ∷ i ∷ x ∷ a ∷ b ∷ []) (v0 ⊗ (v3 ⊕ v4) ⊖ v2 ⊗ (v0 ⊗ (v1 ⊗ (v3 ⊖ v4)))) (v0 ⊗ (v3 ⊕ v4) ⊖ v2 ⊗ v1 ⊗ (v0 ⊗ (v3 ⊖ v4))) refl ∙
        ap (λ t. difference ring (ring.mul h (ring.add a b)) (ring.mul t (ring.mul h (difference ring a b)))) (laws.mul_inverse x nonzero) ∙
        solve laws.of_ring (h ∷ a ∷ b ∷ []) (v0 ⊗ (v1 ⊕ v2) ⊖ unit ⊗ (v0 ⊗ (v1 ⊖ v2))) ((unit ⊕ unit) ⊗ v0 ⊗ v2) refl ∙
        ap (λ t. ring.mul t b) (laws.mul_inverse (ring.add ring.one ring.one) two) ∙ one_mul laws.of_ring b

  module _ (q r : List K) where
    -- The polynomials of the odd and of the even part.
    abbrev odd_polynomial : List K
    odd_polynomial = scaled ring gap (difference (polynomial_ring ring) q r)

    abbrev even_polynomial : List K
    even_polynomial = difference (polynomial_ring ring) q (scaled ring beta odd_polynomial)

    abbrev pub joined_polynomial : List K
    joined_polynomial = interleaved ring even_polynomial odd_polynomial

    pub joined_degree : (n : ℕ) → HasDegreeBelow n q → HasDegreeBelow n r → HasDegreeBelow (2 * n) joined_polynomial
    joined_degree n below_q below_r =
        let odd : HasDegreeBelow n odd_polynomial = rw (length-map (difference (polynomial_ring ring) q r) (ring.mul gap)) (difference_length ring q r n below_q below_r) in
        let scaled_odd : HasDegreeBelow n (scaled ring beta odd_polynomial) = rw (length-map odd_polynomial (ring.mul beta)) odd in
        interleaved_length ring even_polynomial odd_polynomial n (difference_length ring q (scaled ring beta odd_polynomial) n below_q scaled_odd) odd

    module _ (x a b : K) (two : ring.add ring.one ring.one ≢ ring.zero) (nonzero : x ≢ ring.zero)
        (first : folded_pair ring inverse beta x a b ≡ value ring q (ring.mul x x)) (second : folded_pair ring inverse gamma x a b ≡ value ring r (ring.mul x x)) where
      odd_value : value ring odd_polynomial (ring.mul x x) ≡ ring.mul (half_of ring inverse) (ring.mul (inverse x) (difference ring a b))
      odd_value =
          value_of_scaled laws.of_ring gap (difference (polynomial_ring ring) q r) (ring.mul x x) ∙ ap (ring.mul gap) (value_of_difference laws.of_ring q r (ring.mul x x)) ∙
          ap (λ t. ring.mul gap (difference ring t (value ring r (ring.mul x x)))) (sym first) ∙ ap (λ t. ring.mul gap (difference ring (folded_pair ring inverse beta x a b) t)) (sym second) ∙ odd_part x a b two nonzero

      even_value : value ring even_polynomial (ring.mul x x) ≡ ring.mul (half_of ring inverse) (ring.add a b)
      even_value =
          value_of_difference laws.of_ring q (scaled ring beta odd_polynomial) (ring.mul x x) ∙
          ap (λ t. difference ring (value ring q (ring.mul x x)) t) (value_of_scaled laws.of_ring beta odd_polynomial (ring.mul x x) ∙ ap (ring.mul beta) odd_value) ∙
          ap (λ t. difference ring t (ring.mul beta (ring.mul (half_of ring inverse) (ring.mul (inverse x) (difference ring a b))))) (sym first) ∙ even_part x a b two nonzero

      pub takes_first : a ≡ value ring joined_polynomial x
      takes_first =
          sym (value_of_interleaved laws.of_ring even_polynomial odd_polynomial x ∙ ap (λ t. ring.add t (ring.mul x (value ring odd_polynomial (ring.mul x x)))) even_value
          ∙ ap (λ t. ring.add (ring.mul (half_of ring inverse) (ring.add a b)) (ring.mul x t)) odd_value ∙ first_back x a b two nonzero)

      pub takes_second : b ≡ value ring joined_polynomial (ring.neg x)
      takes_second =
          let square : ring.mul (ring.neg x) (ring.neg x) ≡ ring.mul x x = opposite_squared laws.of_ring x in
          sym (value_of_interleaved laws.of_ring even_polynomial odd_polynomial (ring.neg x) ∙ ap (λ y. ring.add (value ring even_polynomial y) (ring.mul (ring.neg x) (value ring odd_polynomial y))) square
          ∙ ap (λ t. ring.add t (ring.mul (ring.neg x) (value ring odd_polynomial (ring.mul x x)))) even_value
          ∙ ap (λ t. ring.add (ring.mul (half_of ring inverse) (ring.add a b)) t) (neg_mul laws.of_ring x (value ring odd_polynomial (ring.mul x x)) ∙ ap (λ t. ring.neg (ring.mul x t)) odd_value)
          ∙ second_back x a b two nonzero)

-- A word's values at the points of a coset, folded, are those of a polynomial.
abbrev pub FoldsTo : {K : Type 0} → RingOps K → (K → K) → (ℕ → K) → TwoAdicCoset K → ℕ → (ℕ → K) → K → List K → Type 0
FoldsTo ring inverse root c k word beta q = (i : ℕ) → i < 2 ^ k
    → folded_pair ring inverse beta (coset_point ring root c i) (word i) (word (i + 2 ^ k)) ≡ value ring q (coset_point ring root (squared_coset ring c) i)

-- It has a polynomial's values at all points.
pub record IsCodeword {K : Type 0} (ring : RingOps K) (root : ℕ → K) (c : TwoAdicCoset K) (k n : ℕ) (word : ℕ → K) : Type 0 where
  pub polynomial : List K
  pub degree : HasDegreeBelow n polynomial
  pub lower : (i : ℕ) → i < 2 ^ k → word i ≡ value ring polynomial (coset_point ring root c i)
  pub upper : (i : ℕ) → i < 2 ^ k → word (i + 2 ^ k) ≡ value ring polynomial (coset_point ring root c (i + 2 ^ k))

module _ {K : Type 0} {ring : RingOps K} {inverse : K → K} (laws : FieldLaws ring inverse) (adicity : ℕ) (root : ℕ → K) (generator : K) (two_adic : TwoAdicLaws ring adicity root generator) where
  -- A word that folds to codewords of degree below n by two betas is a codeword of degree below 2 n.
  pub two_betas : (c : TwoAdicCoset K) → IsTwoAdicCoset ring adicity c → (k : ℕ) → c.log_size ≡ suc k → (word : ℕ → K) (beta gamma : K) → beta ≢ gamma → (n : ℕ) (q r : List K)
      → HasDegreeBelow n q → HasDegreeBelow n r → FoldsTo ring inverse root c k word beta q → FoldsTo ring inverse root c k word gamma r → IsCodeword ring root c k (2 * n) word
  two_betas c valid k size word beta gamma apart n q r below_q below_r by_beta by_gamma =
      let pt = coset_point ring root c in
      let two = two_nonzero laws adicity root generator two_adic in
      let square = λ (i : ℕ). squared_point laws adicity root generator two_adic c valid k size i in record {
        polynomial = joined_polynomial laws beta gamma apart q r;
        degree = joined_degree laws beta gamma apart q r n below_q below_r;
        lower = λ i below. takes_first laws beta gamma apart q r (pt i) (word i) (word (i + 2 ^ k)) two (point_nonzero laws adicity root generator two_adic c valid i)
            (by_beta i below ∙ ap (value ring q) (sym (square i))) (by_gamma i below ∙ ap (value ring r) (sym (square i)));
        upper = λ i below. takes_second laws beta gamma apart q r (pt i) (word i) (word (i + 2 ^ k)) two (point_nonzero laws adicity root generator two_adic c valid i)
            (by_beta i below ∙ ap (value ring q) (sym (square i))) (by_gamma i below ∙ ap (value ring r) (sym (square i)))
            ∙ ap (value ring (joined_polynomial laws beta gamma apart q r)) (sym (opposite_point laws adicity root generator two_adic c valid k size i));
      }
