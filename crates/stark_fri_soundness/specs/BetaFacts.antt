-- Few betas are bad: a fold is a line in beta, through the fold by zero.
use Rattle.std.specs.Prelude.{◌≡◌, ℕ, suc, ◌+◌, ◌-◌, ◌*◌, ◌%◌, ◌<◌, ◌≤◌, Bool, true, List, [], ◌∷◌, refl}
use Rattle.std.proofs.Common.{sym, ap, ◌∙◌, subst, inl, inr, arith}
use Rattle.std.proofs.lemmas.Bool.{cases_lt}
use Rattle.stark_support.specs.Ring.{RingOps, FieldLaws, difference}
use Rattle.stark_support.specs.RingSolver.{solve, nothing, unit, ◌⊕◌, ◌⊖◌, ◌⊗◌, v0, v1, v2, v3, v4}
use Rattle.stark_support.specs.Polynomial.{value, polynomial_sum, HasDegreeBelow, HoldsOfAtMost}
use Rattle.stark_support.specs.PolynomialFacts.{sum_length, value_of_sum}
use Rattle.stark_support.specs.PointFacts.{all_both}
use Rattle.stark_support.specs.TwoAdic.{TwoAdicLaws}
use Rattle.stark_support.specs.Coset.{IsTwoAdicCoset, TwoAdicCoset, coset_point}
use Rattle.stark_support.specs.CosetFacts.{point_nonzero, points_differ}
use Rattle.stark_folding.specs.Fold.{half_of, squared_coset}
use Rattle.stark_folding.specs.FoldFacts.{opposite_point, squared_point, squares_valid, two_nonzero}
use Rattle.stark_folding.specs.OneBeta.{joined_degree, joined_polynomial, takes_first, takes_second}
use Rattle.stark_folding.specs.Walk.{half_size}
use Rattle.stark_fri_soundness.specs.Agreement.{ArePointsApart}
use Rattle.stark_fri_soundness.specs.Beta.{AgreesOn, FewBadBetas, IsBadBeta, folded_word, over}
use Rattle.stark_fri_soundness.specs.Halves.{high_place, low_place, size_is_twice}
use Rattle.stark_fri_soundness.specs.Line.{IsBadLine, line_at, line_bound}
use Rattle.stark_fri_soundness.specs.LineFacts.{few_bad_lines}

none_of_one : 0 < 1
none_of_one = omega arith

module _ {K : Type 0} {ring : RingOps K} {inverse : K → K} (laws : FieldLaws ring inverse) (adicity : ℕ) (root : ℕ → K) (generator : K) (two_adic : TwoAdicLaws ring adicity root generator) where
  module _ (c : TwoAdicCoset K) (valid : IsTwoAdicCoset ring adicity c) (some : 1 ≤ c.log_size) (word : ℕ → K) where
    whole : c.log_size ≡ suc (c.log_size - 1)
    whole = omega arith

    points_of_squares_apart : ArePointsApart (half_size c) (coset_point ring root (squared_coset ring c))
    points_of_squares_apart i j less below =
        points_differ laws adicity root generator two_adic (squared_coset ring c) (squares_valid laws adicity root generator two_adic c valid (c.log_size - 1) whole) i j less below

    -- the fold by zero, and what beta is multiplied by
    abbrev start : ℕ → K
    start = folded_word ring inverse root c ring.zero word

    abbrev step : ℕ → K
    step i = difference ring (folded_word ring inverse root c ring.one word i) (start i)

    abbrev first : ℕ → ℕ → K
    first j = start

    abbrev second : ℕ → ℕ → K
    second j = step

    fold_is_line : (beta : K) (i : ℕ) → line_at ring first second beta 0 i ≡ folded_word ring inverse root c beta word i
    fold_is_line beta i =
        let a = word i in
        let b = word (i + half_size c) in
        let x = inverse (coset_point ring root c i) in
        solve laws.of_ring (half_of ring inverse ∷ x ∷ a ∷ b ∷ beta ∷ [])
        (v0 ⊗ (v2 ⊕ v3 ⊕ nothing ⊗ v1 ⊗ (v2 ⊖ v3)) ⊕ v4 ⊗ (v0 ⊗ (v2 ⊕ v3 ⊕ unit ⊗ v1 ⊗ (v2 ⊖ v3)) ⊖ v0 ⊗ (v2 ⊕ v3 ⊕ nothing ⊗ v1 ⊗ (v2 ⊖ v3))))
        (v0 ⊗ (v2 ⊕ v3 ⊕ v4 ⊗ v1 ⊗ (v2 ⊖ v3)))
        refl

    module _ (d : ℕ) (places : ℕ → Bool) (starts : AgreesOn ring root (squared_coset ring c) d places start) (steps : AgreesOn ring root (squared_coset ring c) d places step) where
      abbrev by_one : List K
      by_one = polynomial_sum ring starts.polynomial steps.polynomial

      by_one_value : (i : ℕ) → i < half_size c → places i ≡ true
          → folded_word ring inverse root c ring.one word i ≡ value ring by_one (coset_point ring root (squared_coset ring c) i)
      by_one_value i below is =
          solve laws.of_ring (folded_word ring inverse root c ring.one word i ∷ start i ∷ []) v0 (v1 ⊕ (v0 ⊖ v1)) refl
          ∙ ap (λ t. ring.add t (step i)) (starts.takes i below is) ∙ ap (ring.add (value ring starts.polynomial (coset_point ring root (squared_coset ring c) i))) (steps.takes i below is)
          ∙ sym (value_of_sum laws.of_ring starts.polynomial steps.polynomial (coset_point ring root (squared_coset ring c) i))

      abbrev joined : List K
      joined = joined_polynomial laws ring.one ring.zero laws.one_not_zero by_one starts.polynomial

      joined_below : HasDegreeBelow (2 * d) joined
      joined_below = joined_degree laws ring.one ring.zero laws.one_not_zero by_one starts.polynomial d (sum_length ring starts.polynomial steps.polynomial d starts.degree steps.degree) starts.degree

      square : (i : ℕ) → ring.mul (coset_point ring root c i) (coset_point ring root c i) ≡ coset_point ring root (squared_coset ring c) i
      square i = squared_point laws adicity root generator two_adic c valid (c.log_size - 1) whole i

      lower : (i : ℕ) → i < half_size c → places i ≡ true → word i ≡ value ring joined (coset_point ring root c i)
      lower i below is =
          takes_first laws ring.one ring.zero laws.one_not_zero by_one starts.polynomial (coset_point ring root c i) (word i) (word (i + half_size c))
          (two_nonzero laws adicity root generator two_adic) (point_nonzero laws adicity root generator two_adic c valid i)
          (by_one_value i below is ∙ ap (value ring by_one) (sym (square i))) (starts.takes i below is ∙ ap (value ring starts.polynomial) (sym (square i)))

      upper : (i : ℕ) → i < half_size c → places i ≡ true → word (i + half_size c) ≡ value ring joined (coset_point ring root c (i + half_size c))
      upper i below is =
          takes_second laws ring.one ring.zero laws.one_not_zero by_one starts.polynomial (coset_point ring root c i) (word i) (word (i + half_size c))
          (two_nonzero laws adicity root generator two_adic) (point_nonzero laws adicity root generator two_adic c valid i)
          (by_one_value i below is ∙ ap (value ring by_one) (sym (square i))) (starts.takes i below is ∙ ap (value ring starts.polynomial) (sym (square i)))
          ∙ ap (value ring joined) (sym (opposite_point laws adicity root generator two_adic c valid (c.log_size - 1) whole i))

      -- What folds by zero and by one to polynomials agrees with a polynomial of twice the degree.
      joins : AgreesOn ring root c (2 * d) (over c places) word
      joins = record {
        polynomial = joined;
        degree = joined_below;
        takes = λ i within is. elim (cases_lt i (half_size c)) [
          | inl low ↦ lower i low (subst (λ k. places k ≡ true) (low_place i (half_size c) low) is)
          | inr high ↦
              let j = i % half_size c in
              let back : j + half_size c ≡ i = high_place i (half_size c) high (subst (λ s. i < s) (size_is_twice c.log_size some) within) in
              let low : j < half_size c = omega (arith, size_is_twice c.log_size some) in
              ap word (sym back) ∙ upper j low is ∙ ap (λ k. value ring joined (coset_point ring root c k)) back
        ];
      }

    module _ (d e : ℕ) where
      abbrev BadLine : K → Type 0
      BadLine = IsBadLine ring (coset_point ring root (squared_coset ring c)) (half_size c) d 1 e first second

      bad_line : (beta : K) → IsBadBeta ring inverse root c d e word beta → BadLine beta
      bad_line beta bad = record {
        places = bad.places;
        many = bad.many;
        near = λ j below. record {
          polynomial = bad.near.polynomial;
          degree = bad.near.degree;
          takes = λ i under is. fold_is_line beta i ∙ bad.near.takes i under is;
        };
        apart = λ starts steps. bad.apart (joins d bad.places (starts 0 none_of_one) (steps 0 none_of_one));
      }

      betas_are_few : 2 * e + d ≤ half_size c → HoldsOfAtMost (line_bound (half_size c) d e) (IsBadBeta ring inverse root c d e word)
      betas_are_few near betas distinct bad =
          few_bad_lines laws (coset_point ring root (squared_coset ring c)) (half_size c) d 1 e points_of_squares_apart near first second betas distinct
          (all_both (IsBadBeta ring inverse root c d e word) (IsBadBeta ring inverse root c d e word) BadLine (λ beta is _. bad_line beta is) betas bad bad)

  pub few_bad_betas : FewBadBetas ring inverse adicity root
  few_bad_betas c valid some d e near word = betas_are_few c valid some word d e near
