-- Claims are sound: where their quotients agree with polynomials, the columns do, and the claims are true of these.
use Rattle.std.specs.Prelude.{◌≡◌, ◌≢◌, ◌⊎◌, ℕ, suc, ◌+◌, ◌*◌, ◌<◌, ◌≤◌, Bool, true, List, [], ◌∷◌, length, refl}
use Rattle.std.specs.List.{AllByRecursion}
use Rattle.std.proofs.Common.{sym, ap, ◌∙◌, inl, inr, arith}
use Rattle.std.proofs.lemmas.Bool.{and_parts}
use Rattle.std.proofs.lemmas.List.{length-map}
use Rattle.stark_support.specs.Ring.{RingOps, FieldLaws, difference}
use Rattle.stark_support.specs.RingFacts.{same_if_no_difference}
use Rattle.stark_support.specs.RingSolver.{solve, nothing, opposite_of, ◌⊕◌, ◌⊖◌, ◌⊗◌, v0, v1, v2, v3}
use Rattle.stark_support.specs.FieldFacts.{divide_times}
use Rattle.stark_support.specs.Polynomial.{value, polynomial_sum, scaled, constant_polynomial, HasDegreeBelow}
use Rattle.stark_support.specs.PolynomialFacts.{sum_length, value_of_constant, value_of_scaled, value_of_sum}
use Rattle.stark_support.specs.Interpolation.{times_root}
use Rattle.stark_support.specs.PointFacts.{all_both}
use Rattle.stark_fri_soundness.specs.Agreement.{Agrees, ArePointsApart, count}
use Rattle.stark_fri_soundness.specs.AgreementFacts.{decide_agrees, polynomials_same}
use Rattle.stark_fri_soundness.specs.Claims.{AgreesWithClaim, Claim, ClaimsAreSound, ClaimsHold, OnePolynomial, quotient_words}
use Rattle.stark_fri_soundness.specs.Counting.{common, count_common}

module _ {K : Type 0} {ring : RingOps K} {inverse : K → K} (laws : FieldLaws ring inverse) where
  module _ (q : List K) (z v : K) where
    -- v + (X - z) q
    abbrev multiple : List K
    multiple = polynomial_sum ring (constant_polynomial v) (times_root ring z q)

    multiple_degree : (d : ℕ) → HasDegreeBelow d q → HasDegreeBelow (suc d) multiple
    multiple_degree d below =
        let scaled_below : HasDegreeBelow (suc d) (scaled ring (ring.neg z) q) = rw (length-map q (ring.mul (ring.neg z))) (omega arith) in
        sum_length ring (constant_polynomial v) (times_root ring z q) (suc d) (omega arith) (sum_length ring (ring.zero ∷ q) (scaled ring (ring.neg z) q) (suc d) (omega arith) scaled_below)

    multiple_value : (x : K) → value ring multiple x ≡ ring.add v (ring.mul (value ring q x) (difference ring x z))
    multiple_value x =
        value_of_sum laws.of_ring (constant_polynomial v) (times_root ring z q) x
        ∙ ap (λ t. ring.add t (value ring (times_root ring z q) x)) (value_of_constant laws.of_ring v x)
        ∙ ap (ring.add v) (value_of_sum laws.of_ring (ring.zero ∷ q) (scaled ring (ring.neg z) q) x
        ∙ ap (ring.add (ring.add ring.zero (ring.mul (value ring q x) x))) (value_of_scaled laws.of_ring (ring.neg z) q x))
        ∙ solve laws.of_ring (v ∷ value ring q x ∷ x ∷ z ∷ []) (v0 ⊕ (nothing ⊕ v1 ⊗ v2 ⊕ opposite_of v3 ⊗ v1)) (v0 ⊕ v1 ⊗ (v2 ⊖ v3)) refl

  pub claims_are_sound : ClaimsAreSound ring inverse
  claims_are_sound point n d places word z v outside near = record {
    polynomial = multiple near.polynomial z v;
    degree = multiple_degree near.polynomial z v d near.degree;
    takes = λ i below is.
        let nonzero : difference ring (point i) z ≢ ring.zero = λ h. outside i below (same_if_no_difference laws.of_ring (point i) z h) in
        solve laws.of_ring (word i ∷ v ∷ []) v0 (v1 ⊕ (v0 ⊖ v1)) refl
        ∙ ap (ring.add v) (sym (divide_times laws (difference ring (word i) v) (difference ring (point i) z) nonzero) ∙ ap (λ t. ring.mul t (difference ring (point i) z)) (near.takes i below is))
        ∙ sym (multiple_value near.polynomial z v (point i));
    claimed = multiple_value near.polynomial z v z ∙ solve laws.of_ring (v ∷ value ring near.polynomial z ∷ z ∷ []) (v0 ⊕ v1 ⊗ (v2 ⊖ v2)) v0 refl;
  }

  two_sets : (n d e a b ab : ℕ) → 2 * e + d ≤ n → n ≤ a + e → n ≤ b + e → a + b ≤ n + ab → d ≤ ab
  two_sets n d e a b ab h k l both = omega arith

  pub one_polynomial : OnePolynomial ring
  one_polynomial point n d e apart within word first second many_first many_second p q =
      polynomials_same laws point n d (common first second) apart
      (two_sets n d e (count n first) (count n second) (count n (common first second)) within many_first many_second (count_common n first second))
      p.polynomial q.polynomial p.degree q.degree
      (λ i below is. let parts = and_parts (first i) (second i) is in sym (p.takes i below parts.0) ∙ q.takes i below parts.1)

-- ---- all claims

module _ {K : Type 0} {ring : RingOps K} {inverse : K → K} (laws : FieldLaws ring inverse) (point : ℕ → K) (n d : ℕ) (apart : ArePointsApart n point) (places : ℕ → Bool) {I : Type 0} (columns : I → ℕ → K) where
  abbrev Sound : Claim I K → Type 0
  Sound claim = AgreesWithClaim ring inverse point n (suc d) places (columns claim.column) claim.at claim.claimed

  -- Where the quotients agree with polynomials each claim is sound.
  pub each_claim : (claims : List (Claim I K)) → AllByRecursion (λ (claim : Claim I K). (i : ℕ) → i < n → point i ≢ claim.at) claims
      → ((j : ℕ) → j < length claims → Agrees ring point n d places (quotient_words ring inverse columns point claims j)) → AllByRecursion Sound claims
  each_claim [] off near = tt
  each_claim (claim ∷ claims) off near = (
    claims_are_sound laws point n d places (columns claim.column) claim.at claim.claimed off.0 (near 0 (omega arith)),
    each_claim claims off.1 (λ j below. near (suc j) (omega arith)),
  )

  agrees_of : (claim : Claim I K) → Sound claim → Agrees ring point n (suc d) places (columns claim.column)
  agrees_of claim sound = record { polynomial = sound.polynomial; degree = sound.degree; takes = sound.takes }

  abbrev pub Decided : I → Type 0
  Decided column = Agrees ring point n (suc d) places (columns column) ⊎ (Agrees ring point n (suc d) places (columns column) → ⊥)

  -- A column's polynomial, and the zero polynomial for a column that agrees with none.
  abbrev pub polynomial_or_zero : (column : I) → Decided column → List K
  polynomial_or_zero column (inl agrees) = agrees.polynomial
  polynomial_or_zero column (inr never) = []

  pub decided : (column : I) → Decided column
  decided column = decide_agrees laws point n (suc d) places (columns column) apart

  abbrev pub polynomial_of : I → List K
  polynomial_of column = polynomial_or_zero column (decided column)

  nothing_below : HasDegreeBelow {K = K} (suc d) []
  nothing_below = omega arith

  pub degree_of : (column : I) → HasDegreeBelow (suc d) (polynomial_of column)
  degree_of column = elim (decided column) as (λ x. HasDegreeBelow (suc d) (polynomial_or_zero column x)) [ inl agrees ↦ agrees.degree | inr never ↦ nothing_below ]

  pub takes_of : (column : I) → Agrees ring point n (suc d) places (columns column) → (i : ℕ) → i < n → places i ≡ true → columns column i ≡ value ring (polynomial_of column) (point i)
  takes_of column agrees i below is =
      elim (decided column) as (λ x. columns column i ≡ value ring (polynomial_or_zero column x) (point i)) [
        | inl own ↦ own.takes i below is
        | inr never ↦ absurd (never agrees)
      ]

  claim_is_true : suc d ≤ count n places → (claim : Claim I K) → Sound claim → value ring (polynomial_of claim.column) claim.at ≡ claim.claimed
  claim_is_true enough claim sound =
      elim (decided claim.column) as (λ x. value ring (polynomial_or_zero claim.column x) claim.at ≡ claim.claimed) [
        | inl agrees ↦
            polynomials_same laws point n (suc d) places apart enough agrees.polynomial sound.polynomial agrees.degree sound.degree
            (λ i below is. sym (agrees.takes i below is) ∙ sound.takes i below is) claim.at
            ∙ sound.claimed
        | inr never ↦ absurd (never (agrees_of claim sound))
      ]

  pub claims_hold : suc d ≤ count n places → (claims : List (Claim I K)) → AllByRecursion Sound claims → ClaimsHold ring point n (suc d) places columns claims
  claims_hold enough claims sound = record {
    polynomials = polynomial_of;
    degrees = degree_of;
    takes = all_both Sound Sound (λ claim. (i : ℕ) → i < n → places i ≡ true → columns claim.column i ≡ value ring (polynomial_of claim.column) (point i)) (λ claim is _. takes_of claim.column (agrees_of claim is)) claims sound sound;
    are_true = all_both Sound Sound (λ claim. value ring (polynomial_of claim.column) claim.at ≡ claim.claimed) (λ claim is _. claim_is_true enough claim is) claims sound sound;
  }
