-- The errors of combined words that are near to codewords, and polynomials that are zero at them.
use Rattle.std.specs.Prelude.{◌≡◌, ◌≢◌, ◌⊎◌, ℕ, zero, suc, ◌+◌, ◌*◌, ◌<◌, ◌≤◌, Bool, true, false, not, ◌&&◌, List, [], ◌∷◌, length, refl}
use Rattle.std.specs.List.{AllByRecursion}
use Rattle.std.proofs.Common.{sym, ap, ◌∙◌, subst, inl, inr, arith}
use Rattle.std.proofs.lemmas.Bool.{and_from, cases_Bool, not_from_false, not_from_true, true≢false}
use Rattle.stark_support.specs.Ring.{RingOps, FieldLaws, difference}
use Rattle.stark_support.specs.RingFacts.{mul_zero, same_if_no_difference}
use Rattle.stark_support.specs.RingSolver.{solve, nothing, ◌⊖◌, ◌⊗◌, v0, v1, v2}
use Rattle.stark_support.specs.FieldFacts.{zero_factor}
use Rattle.stark_support.specs.Polynomial.{value, polynomial_product, HasDegreeBelow}
use Rattle.stark_support.specs.PolynomialFacts.{product_length, value_of_product}
use Rattle.stark_fri_soundness.specs.Agreement.{ArePointsApart, count}
use Rattle.stark_fri_soundness.specs.AgreementFacts.{polynomials_same}
use Rattle.stark_fri_soundness.specs.Counting.{all_selected, common, count_outside, counted, last_or_earlier, later, last, outside, selected, selected_in, selected_length, selected_out}
use Rattle.stark_fri_soundness.specs.Multiplier.{Locus, Multiplier, multiplier_of_many}
use Rattle.stark_fri_soundness.specs.Curve.{combined_at}
use Rattle.stark_fri_soundness.specs.Weights.{AreApart, gaps, gaps_below, gaps_nonzero, gaps_polynomial, value_of_gaps}

-- ---- a polynomial of degree below d times one of degree at most e

product_below : {K : Type 0} (ring : RingOps K) (d e : ℕ) (p q : List K) → HasDegreeBelow d p → HasDegreeBelow (suc e) q → HasDegreeBelow (d + e) (polynomial_product ring p q)
product_below ring zero e [] q below_p below_q = omega arith
product_below ring zero e (c ∷ p) q below_p below_q = absurd (omega arith)
product_below ring (suc d) e p q below_p below_q =
    let next : suc (d + e) ≡ suc d + e = omega arith in
    subst (λ k. length (polynomial_product ring p q) ≤ k) next (product_length ring p q d e below_p below_q)

-- ---- a polynomial that is zero at the places of a set alone

before_or_after : (i k : ℕ) → (i < k) ⊎ ((i ≡ k) ⊎ (k < i))
before_or_after i k = grind arith

module _ {K : Type 0} {ring : RingOps K} {inverse : K → K} (laws : FieldLaws ring inverse) (point : ℕ → K) where
  abbrev itself : K → K
  itself x = x

  abbrev roots : ℕ → (ℕ → Bool) → List K
  roots n places = selected point n places

  gap_here : (n i : ℕ) (t : K) → i ≡ n → ring.mul (difference ring (point i) (point n)) t ≡ ring.zero
  gap_here n i t same =
      ap (λ k. ring.mul (difference ring (point k) (point n)) t) same ∙ solve laws.of_ring (point n ∷ t ∷ []) ((v0 ⊖ v0) ⊗ v1) nothing refl

  gaps_zero : (n : ℕ) (places : ℕ → Bool) (i : ℕ) → i < n → places i ≡ true → gaps ring itself (point i) (roots n places) ≡ ring.zero
  gaps_zero zero places i below is = absurd (omega arith)
  gaps_zero (suc n) places i below is = elim (cases_Bool (places n)) [
    | inl here ↦ ap (gaps ring itself (point i)) (selected_in point n places here) ∙ elim (last_or_earlier i n below) [
      | inl same ↦ gap_here n i (gaps ring itself (point i) (roots n places)) same
      | inr earlier ↦ ap (ring.mul (difference ring (point i) (point n))) (gaps_zero n places i earlier is) ∙ mul_zero laws.of_ring (difference ring (point i) (point n))
    ]
    | inr out ↦ ap (gaps ring itself (point i)) (selected_out point n places out) ∙ elim (last_or_earlier i n below) [
      | inl same ↦ absurd (true≢false (sym (subst (λ k. places k ≡ true) same is) ∙ out))
      | inr earlier ↦ gaps_zero n places i earlier is
    ]
  ]

  points_differ : (n : ℕ) → ArePointsApart n point → (i k : ℕ) → i < n → k < n → (i ≡ k → ⊥) → point i ≢ point k
  points_differ n apart i k below under other = elim (before_or_after i k) [
    | inl before ↦ apart i k before under
    | inr rest ↦ elim rest [ inl same ↦ absurd (other same) | inr after ↦ λ same. apart k i after below (sym same) ]
  ]

  gaps_elsewhere : (n : ℕ) → ArePointsApart n point → (places : ℕ → Bool) (i : ℕ) → i < n → places i ≡ false → gaps ring itself (point i) (roots n places) ≢ ring.zero
  gaps_elsewhere n apart places i below out =
      gaps_nonzero laws itself (point i) (roots n places)
      (all_selected point (λ y. point i ≢ y) n places (λ k under is. points_differ n apart i k below under (λ same. true≢false (sym (subst (λ j. places j ≡ true) (sym same) is) ∙ out))))

-- ---- elements at which the combined word is near to a codeword

-- An element, and the codeword's polynomial.
pub record Entry (K : Type 0) (d : ℕ) : Type 0 where
  pub element : K
  pub polynomial : List K
  pub below : HasDegreeBelow d polynomial

abbrev pub element_of : {K : Type 0} {d : ℕ} → Entry K d → K
element_of x = x.element

abbrev differs : {K : Type 0} {x y : K} → (x ≡ y) ⊎ (x ≢ y) → Bool
differs (inl same) = false
differs (inr other) = true

pub not_from_outside : (b : Bool) → not b ≡ true → b ≡ false
not_from_outside b is = elim (cases_Bool b) [ inr out ↦ out | inl inside ↦ absurd (true≢false (sym is ∙ not_from_true b inside)) ]

some_place : (n : ℕ) (places : ℕ → Bool) → count n places < n → (i : ℕ) × (i < n) × (places i ≡ false)
some_place zero places few = absurd (omega arith)
some_place (suc n) places few = elim (counted n places) [
  | inr out ↦ (n, last n, out.0)
  | inl is ↦ let rest = some_place n places (omega arith) in (rest.0, later rest.0 n rest.1, rest.2)
]

module _ {K : Type 0} {ring : RingOps K} {inverse : K → K} (laws : FieldLaws ring inverse) (point : ℕ → K) (n d l : ℕ) (words : ℕ → ℕ → K) where
  abbrev pub word : K → ℕ → K
  word = combined_at ring l words

  -- Where the word at the element differs from the codeword.
  abbrev pub errors : Entry K d → ℕ → Bool
  errors x i = differs (laws.decides (word x.element i) (value ring x.polynomial (point i)))

  error_differs : (x : Entry K d) (i : ℕ) → errors x i ≡ true → word x.element i ≢ value ring x.polynomial (point i)
  error_differs x i =
      elim (laws.decides (word x.element i) (value ring x.polynomial (point i))) as (λ c. differs c ≡ true → word x.element i ≢ value ring x.polynomial (point i)) [
        | inl same ↦ λ is. absurd (true≢false (sym is))
        | inr other ↦ λ is. other
      ]

  pub no_error_same : (x : Entry K d) (i : ℕ) → errors x i ≡ false → word x.element i ≡ value ring x.polynomial (point i)
  no_error_same x i =
      elim (laws.decides (word x.element i) (value ring x.polynomial (point i))) as (λ c. differs c ≡ false → word x.element i ≡ value ring x.polynomial (point i)) [
        | inl same ↦ λ is. same
        | inr other ↦ λ is. absurd (true≢false is)
      ]

  pub no_error_where_same : (x : Entry K d) (i : ℕ) → word x.element i ≡ value ring x.polynomial (point i) → errors x i ≡ false
  no_error_where_same x i same = elim (cases_Bool (errors x i)) [ inr out ↦ out | inl is ↦ absurd (error_differs x i is same) ]

  module _ (apart : ArePointsApart n point) (t : ℕ) (ignored : ℕ → Bool) where
    -- The errors at places that aren't ignored.
    abbrev pub seen_errors : Entry K d → ℕ → Bool
    seen_errors x = common (errors x) (outside ignored)

    -- There are at most t of these, and places without an error.
    abbrev pub IsLocated : Entry K d → Type 0
    IsLocated x = (count n (seen_errors x) ≤ t) × (count n (errors x) < n)

    module _ (x : Entry K d) (located : IsLocated x) where
      abbrev error_polynomial : List K
      error_polynomial = gaps_polynomial ring (itself laws point) (roots laws point n (seen_errors x))

      error_polynomial_is : (y : K) → value ring error_polynomial y ≡ gaps ring (itself laws point) y (roots laws point n (seen_errors x))
      error_polynomial_is y = value_of_gaps laws.of_ring (itself laws point) (roots laws point n (seen_errors x)) y

      few_factors : (l c : ℕ) → l ≡ c → c ≤ t → suc l ≤ suc t
      few_factors l c same few = omega arith

      wider : (a b c : ℕ) → a ≤ b → b ≤ c → a ≤ c
      wider a b c h k = omega arith

      error_polynomial_below : HasDegreeBelow (suc t) error_polynomial
      error_polynomial_below = wider _ _ _ (gaps_below ring (itself laws point) (roots laws point n (seen_errors x)))
          (few_factors _ _ (selected_length point n (seen_errors x)) located.0)

      not_seen : (i : ℕ) → errors x i ≡ false → seen_errors x i ≡ false
      not_seen i out = ap (λ b. b && outside ignored i) out

      at_errors : (i : ℕ) → i < n → ignored i ≡ false
          → ring.mul (value ring error_polynomial (point i)) (word x.element i) ≡ ring.mul (value ring error_polynomial (point i)) (value ring x.polynomial (point i))
      at_errors i below seen = elim (cases_Bool (errors x i)) [
        | inr out ↦ ap (ring.mul (value ring error_polynomial (point i))) (no_error_same x i out)
        | inl is ↦
            let none : value ring error_polynomial (point i) ≡ ring.zero
            = error_polynomial_is (point i) ∙ gaps_zero laws point n (seen_errors x) i below (and_from (errors x i) (outside ignored i) is (not_from_false (ignored i) seen)) in
            ap (λ s. ring.mul s (word x.element i)) none
            ∙ solve laws.of_ring (word x.element i ∷ value ring x.polynomial (point i) ∷ []) (nothing ⊗ v0) (nothing ⊗ v1) refl
            ∙ ap (λ s. ring.mul s (value ring x.polynomial (point i))) (sym none)
      ]

      locus : Locus ring point n d t l ignored words
      locus =
          let free = some_place n (errors x) located.1 in
          record {
            element = x.element;
            locator = error_polynomial;
            multiple = polynomial_product ring x.polynomial error_polynomial;
            locator_below = error_polynomial_below;
            multiple_below = product_below ring d t x.polynomial error_polynomial x.below error_polynomial_below;
            solves = λ i below seen. at_errors i below seen ∙ laws.of_ring.mul_comm (value ring error_polynomial (point i)) (value ring x.polynomial (point i))
                ∙ sym (value_of_product laws.of_ring x.polynomial error_polynomial (point i));
            place = free.0;
            live = λ none. gaps_elsewhere laws point n apart (seen_errors x) free.0 free.1 (not_seen free.0 free.2) (sym (error_polynomial_is (point free.0)) ∙ none);
          }

    -- ---- a multiplier of many elements

    loci : (k : ℕ) (xs : List (Entry K d)) → AllByRecursion IsLocated xs → List (Locus ring point n d t l ignored words)
    loci zero xs all = []
    loci (suc k) [] all = []
    loci (suc k) (x ∷ xs) all = locus x all.0 ∷ loci k xs all.1

    abbrev locus_element : Locus ring point n d t l ignored words → K
    locus_element l = l.element

    loci_length : (k : ℕ) (xs : List (Entry K d)) (all : AllByRecursion IsLocated xs) → k ≤ length xs → length (loci k xs all) ≡ k
    unfolding loci
    loci_length zero xs all enough = refl
    loci_length (suc k) [] all enough = absurd (omega arith)
    loci_length (suc k) (x ∷ xs) all enough = ap suc (loci_length k xs all.1 (omega arith))

    loci_differ : (z : K) (k : ℕ) (xs : List (Entry K d)) (all : AllByRecursion IsLocated xs) → AllByRecursion (λ (x : Entry K d). z ≢ element_of x) xs → AllByRecursion (λ l. z ≢ locus_element l) (loci k xs all)
    unfolding loci locus
    loci_differ z zero xs all differ = tt
    loci_differ z (suc k) [] all differ = tt
    loci_differ z (suc k) (x ∷ xs) all differ = (differ.0, loci_differ z k xs all.1 differ.1)

    loci_apart : (k : ℕ) (xs : List (Entry K d)) (all : AllByRecursion IsLocated xs) → AreApart element_of xs → AreApart locus_element (loci k xs all)
    unfolding loci locus
    loci_apart zero xs all differ = tt
    loci_apart (suc k) [] all differ = tt
    loci_apart (suc k) (x ∷ xs) all differ = (loci_differ x.element k xs all.1 differ.0, loci_apart k xs all.1 differ.1)

    pub multiplier : 0 < l → (zs : List K) (xs : List (Entry K d)) → AllByRecursion IsLocated xs → AreApart element_of xs → suc (l * suc t) ≤ length xs → suc t ≤ n
        → Multiplier ring point n d t l ignored words zs
    multiplier positive zs xs all differ many room =
        multiplier_of_many laws point n d t l ignored words positive zs apart room (loci (suc (l * suc t)) xs all) (loci_length (suc (l * suc t)) xs all many) (loci_apart (suc (l * suc t)) xs all differ)

    -- ---- what a multiplier is at a near element

    module _ (zs : List K) (m : Multiplier ring point n d t l ignored words zs) (e : ℕ) (room : d + t + e ≤ n) (x : Entry K d) (few : count n (errors x) ≤ e)
        (ignored_errors : (i : ℕ) → errors x i ≡ false → ignored i ≡ false) where
      abbrev E : List K
      E = m.in_first x.element

      enough_places : (c o : ℕ) → c + o ≡ n → c ≤ e → d + t ≤ o
      enough_places c o split h = omega arith

      -- E times the codeword's polynomial is Q.
      is_multiple : (y : K) → ring.mul (value ring x.polynomial y) (value ring E y) ≡ value ring (m.multiple x.element) y
      is_multiple y =
          sym (value_of_product laws.of_ring x.polynomial E y)
          ∙ polynomials_same laws point n (d + t) (outside (errors x)) apart (enough_places (count n (errors x)) (count n (outside (errors x))) (count_outside n (errors x)) few)
          (polynomial_product ring x.polynomial E) (m.multiple x.element) (product_below ring d t x.polynomial E x.below (m.first_below x.element)) (m.multiple_below x.element)
          (λ i below is.
          let out : errors x i ≡ false = not_from_outside (errors x i) is in
          value_of_product laws.of_ring x.polynomial E (point i)
          ∙ laws.of_ring.mul_comm (value ring x.polynomial (point i)) (value ring E (point i))
          ∙ ap (ring.mul (value ring E (point i))) (sym (no_error_same x i out))
          ∙ m.solves i below (ignored_errors i out) x.element) y

      -- So E is zero at the errors that aren't ignored.
      pub zero_at_errors : (i : ℕ) → i < n → errors x i ≡ true → ignored i ≡ false → value ring E (point i) ≡ ring.zero
      zero_at_errors i below is seen =
          let gap = difference ring (word x.element i) (value ring x.polynomial (point i)) in
          zero_factor laws gap (value ring E (point i)) (λ none. error_differs x i is (same_if_no_difference laws.of_ring (word x.element i) (value ring x.polynomial (point i)) none))
          (solve laws.of_ring (word x.element i ∷ value ring x.polynomial (point i) ∷ value ring E (point i) ∷ []) ((v0 ⊖ v1) ⊗ v2) (v2 ⊗ v0 ⊖ v1 ⊗ v2) refl
          ∙ ap (λ s. difference ring s (ring.mul (value ring x.polynomial (point i)) (value ring E (point i)))) (m.solves i below seen x.element)
          ∙ ap (difference ring (value ring (m.multiple x.element) (point i))) (is_multiple (point i))
          ∙ laws.of_ring.add_neg (value ring (m.multiple x.element) (point i)))
