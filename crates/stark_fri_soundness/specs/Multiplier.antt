-- Words u_0 .. u_l, and their combination u_0 + z u_1 + .. + z^l u_l. Where that is near to codewords at l (t + 1) + 1 elements z, with t
-- errors at most, there are polynomials E and Q in X and z such that at each place and each z E times the combined word is Q: they are made of
-- the elements' error locators, which are dependent. E is of degree at most t in X and l t in z, and is the zero polynomial in X
-- at none of some elements.
use Rattle.std.specs.Prelude.{◌≡◌, ◌≢◌, ◌⊎◌, ℕ, zero, suc, ◌+◌, ◌*◌, ◌<◌, ◌≤◌, Bool, false, List, [], ◌∷◌, ◌++◌, length, refl}
use Rattle.std.specs.List.{AllByRecursion}
use Rattle.std.proofs.Common.{sym, ap, ◌∙◌, subst, inl, inr, arith}
use Rattle.std.proofs.lemmas.List.{length-append}
use Rattle.stark_support.specs.Ring.{RingOps, FieldLaws}
use Rattle.stark_support.specs.RingSolver.{solve, nothing, ◌⊕◌, ◌⊗◌, v0, v1}
use Rattle.stark_support.specs.FieldFacts.{nonzero_product}
use Rattle.stark_support.specs.Polynomial.{value, HasDegreeBelow, IsZeroPolynomial}
use Rattle.stark_support.specs.PolynomialFacts.{value_of_zeros}
use Rattle.stark_fri_soundness.specs.Agreement.{ArePointsApart, count}
use Rattle.stark_fri_soundness.specs.AgreementFacts.{zero_at_places}
use Rattle.stark_fri_soundness.specs.Counting.{count_all, every_place, last_or_earlier}
use Rattle.stark_fri_soundness.specs.Curve.{combined_at, curve, listed}
use Rattle.stark_fri_soundness.specs.LinearSystem.{AreZero, Solution, dot, each_listed, listed_length, nonzero_solution}
use Rattle.stark_fri_soundness.specs.Weights.{AreApart, Vanish, after_below, away_from, away_nonzero, by_element_after, dot_of_row, mixed, mixed_below, mixed_of_rest, mixed_of_values, mixed_polynomial, mixed_same, mixed_vanishes, raised_by, rest_of, row_of, spread, spread_nonzero, total, total_below, total_of_raised_by, total_of_spread, total_polynomial, turned_by, value_after, value_of_mixed, value_of_total, weighty}

module _ {K : Type 0} (ring : RingOps K) (point : ℕ → K) (n d t l : ℕ) (ignored : ℕ → Bool) (words : ℕ → ℕ → K) where
  -- An element with a polynomial of degree at most t, not zero at some place, by which at all places that aren't ignored the word at the
  -- element is multiplied to one of degree below d + t.
  pub record Locus : Type 0 where
    pub element : K
    pub locator : List K
    pub multiple : List K
    pub locator_below : HasDegreeBelow (suc t) locator
    pub multiple_below : HasDegreeBelow (d + t) multiple
    pub solves : (i : ℕ) → i < n → ignored i ≡ false → ring.mul (value ring locator (point i)) (combined_at ring l words element i) ≡ value ring multiple (point i)
    pub place : ℕ
    pub live : value ring locator (point place) ≢ ring.zero

  -- The polynomials E, in X and at a place in z, and Q.
  pub record Multiplier (zs : List K) : Type 0 where
    pub in_first : K → List K
    pub in_second : ℕ → List K
    pub multiple : K → List K
    pub first_below : (z : K) → HasDegreeBelow (suc t) (in_first z)
    pub second_below : (i : ℕ) → HasDegreeBelow (suc (l * t)) (in_second i)
    pub multiple_below : (z : K) → HasDegreeBelow (d + t) (multiple z)
    pub same : (i : ℕ) (z : K) → value ring (in_first z) (point i) ≡ value ring (in_second i) z
    pub solves : (i : ℕ) → i < n → ignored i ≡ false → (z : K) → ring.mul (value ring (in_first z) (point i)) (combined_at ring l words z i) ≡ value ring (multiple z) (point i)
    pub alive : AllByRecursion (λ z. IsZeroPolynomial ring (in_first z) → ⊥) zs

all_or_one_of : {K : Type 0} (P : K → Type 0) → ((x : K) → P x ⊎ (P x → ⊥)) → (xs : List K) → AllByRecursion (λ x. P x → ⊥) xs ⊎ ((x : K) × P x)
all_or_one_of P decide [] = inl tt
all_or_one_of P decide (x ∷ xs) = elim (decide x) [
  | inl is ↦ inr (x, is)
  | inr fails ↦ elim (all_or_one_of P decide xs) [ inr one ↦ inr one | inl rest ↦ inl (fails, rest) ]
]

-- ---- rows for each of b numbers and c others

all_in_first : {A : Type 0} (P : A → Type 0) (xs ys : List A) → AllByRecursion P (xs ++ ys) → AllByRecursion P xs
all_in_first P [] ys all = tt
all_in_first P (x ∷ xs) ys all = (all.0, all_in_first P xs ys all.1)

all_in_second : {A : Type 0} (P : A → Type 0) (xs ys : List A) → AllByRecursion P (xs ++ ys) → AllByRecursion P ys
all_in_second P [] ys all = all
all_in_second P (x ∷ xs) ys all = all_in_second P xs ys all.1

module _ {R : Type 0} (c : ℕ) (row : ℕ → ℕ → R) where
  abbrev table : ℕ → List R
  table zero = []
  table (suc b) = listed c (row b) ++ table b

  table_length : (b : ℕ) → length (table b) ≡ b * c
  table_length zero = omega arith
  table_length (suc b) = let rest = table_length b in let here = listed_length c (row b) in length-append (listed c (row b)) (table b) ∙ omega arith

  each_in_table : (P : R → Type 0) (b : ℕ) → AllByRecursion P (table b) → (i j : ℕ) → i < b → j < c → P (row i j)
  each_in_table P zero all i j below under = absurd (omega arith)
  each_in_table P (suc b) all i j below under = elim (last_or_earlier i b below) [
    | inl same ↦ subst (λ k. P (row k j)) (sym same) (each_listed P c (row b) (all_in_first P (listed c (row b)) (table b) all) j under)
    | inr earlier ↦ each_in_table P b (all_in_second P (listed c (row b)) (table b) all) i j earlier under
  ]

-- ---- numbers

after_one : (l t s : ℕ) → suc s ≤ suc (l * suc t) → suc s ≤ suc (l * t) + l
after_one l t s h = let times : l * suc t ≡ l * t + l = omega arith in omega arith

module _ {K : Type 0} {ring : RingOps K} {inverse : K → K} (laws : FieldLaws ring inverse) where
  pub decide_zero : (p : List K) → IsZeroPolynomial ring p ⊎ (IsZeroPolynomial ring p → ⊥)
  decide_zero [] = inl tt
  decide_zero (c ∷ p) = elim (laws.decides c ring.zero) [
    | inr differs ↦ inr (λ zeros. differs zeros.0)
    | inl same ↦ elim (decide_zero p) [ inl rest ↦ inl (same, rest) | inr some ↦ inr (λ zeros. some zeros.1) ]
  ]

  module _ (point : ℕ → K) (n d t l : ℕ) (ignored : ℕ → Bool) (words : ℕ → ℕ → K) (positive : 0 < l) (zs : List K) where
    abbrev Locus_at : Type 0
    Locus_at = Locus ring point n d t l ignored words

    abbrev element : Locus_at → K
    element x = x.element

    abbrev locator_at : K → Locus_at → K
    locator_at y x = value ring x.locator y

    -- The sums of the locators, and of them times powers of the elements, are zero.
    abbrev AreDependent : List Locus_at → (ℕ → K) → Type 0
    AreDependent xs w = (y : K) → Vanish ring element l (locator_at y) xs w

    abbrev Result : Type 0
    Result = Multiplier ring point n d t l ignored words zs

    module _ (x : Locus_at) (xs : List Locus_at) (w : ℕ → K) (dependent : AreDependent (x ∷ xs) w) where
      abbrev E : K → List K
      E z = mixed_polynomial ring element (λ y. y.locator) z (x ∷ xs) w

      abbrev Q : K → List K
      Q z = mixed_polynomial ring element (λ y. y.multiple) z (x ∷ xs) w

      abbrev rest_weights : ℕ → K
      rest_weights = away_from ring element x.element xs (rest_of w)

      abbrev E_by_element : ℕ → List K
      E_by_element i = by_element_after ring element l (locator_at (point i)) (x ∷ xs) w

      E_is : (y z : K) → value ring (E z) y ≡ mixed ring element (locator_at y) z (x ∷ xs) w
      E_is y z = value_of_mixed laws.of_ring element (λ v. v.locator) z (x ∷ xs) w y

      same_length : (a b : ℕ) → a ≡ b → a ≤ b
      same_length a b h = omega arith

      E_solves : (i : ℕ) → i < n → ignored i ≡ false → (z : K) → ring.mul (value ring (E z) (point i)) (combined_at ring l words z i) ≡ value ring (Q z) (point i)
      E_solves i below seen z =
          ap (λ s. ring.mul s (combined_at ring l words z i)) (E_is (point i) z)
          ∙ sym (mixed_of_values laws.of_ring element (curve l words i) l (locator_at (point i)) z (x ∷ xs) w (same_length _ _ (listed_length (suc l) (λ k. words k i))) (dependent (point i)))
          ∙ mixed_same laws.of_ring element (λ v. ring.mul (locator_at (point i) v) (value ring (curve l words i) (element v))) (λ v. value ring v.multiple (point i)) (λ v. v.solves i below seen) z (x ∷ xs) w
          ∙ sym (value_of_mixed laws.of_ring element (λ v. v.multiple) z (x ∷ xs) w (point i))

      result_of : length (x ∷ xs) ≤ suc (l * suc t) → AllByRecursion (λ z. IsZeroPolynomial ring (E z) → ⊥) zs → Result
      result_of few alive = record {
        in_first = E;
        in_second = E_by_element;
        multiple = Q;
        first_below = λ z. mixed_below ring element (λ v. v.locator) (suc t) (λ v. v.locator_below) z (x ∷ xs) w;
        second_below = λ i. after_below ring element l (suc (l * t)) (locator_at (point i)) (x ∷ xs) w (after_one l t (length xs) few);
        multiple_below = λ z. mixed_below ring element (λ v. v.multiple) (d + t) (λ v. v.multiple_below) z (x ∷ xs) w;
        same = λ i z. E_is (point i) z ∙ sym (value_after laws.of_ring element l (locator_at (point i)) (x ∷ xs) w (dependent (point i)) z);
        solves = E_solves;
        alive = alive;
      }

      -- Where E is zero at z, the other locators are dependent.
      rest_dependent : (z : K) → IsZeroPolynomial ring (E z) → AreDependent xs (spread ring element z xs rest_weights)
      rest_dependent z zeros y b below =
          total_of_spread laws.of_ring element (turned_by ring element b (locator_at y)) z xs rest_weights
          ∙ sym (mixed_of_rest laws.of_ring element (turned_by ring element b (locator_at y)) z x xs w (dependent y b below))
          ∙ mixed_vanishes laws.of_ring element b l (locator_at y) z (x ∷ xs) w below (dependent y) (sym (E_is y z) ∙ value_of_zeros laws.of_ring (E z) y zeros)

    abbrev Step : ℕ → Type 0
    Step k = (xs : List Locus_at) (w : ℕ → K) → length xs ≤ k → length xs ≤ suc (l * suc t) → AreApart element xs → (AreZero ring (length xs) w → ⊥) → AreDependent xs w → Result

    not_alone : (x : Locus_at) (w : ℕ → K) → w zero ≢ ring.zero → AreDependent (x ∷ []) w → ⊥
    not_alone x w some dependent =
        nonzero_product laws (w zero) (value ring x.locator (point x.place)) some x.live
        (solve laws.of_ring (w zero ∷ value ring x.locator (point x.place) ∷ []) (v0 ⊗ v1) (v0 ⊗ v1 ⊕ nothing) refl ∙ dependent (point x.place) 0 positive)

    from_weighty : (k : ℕ) → Step k → (xs : List Locus_at) (w : ℕ → K) → length xs ≤ suc k → length xs ≤ suc (l * suc t) → AreApart element xs → ((i : ℕ) → i < length xs → w i ≢ ring.zero)
        → (xs ≡ [] → ⊥) → AreDependent xs w → Result
    from_weighty k again [] w short few apart some none dependent = absurd (none refl)
    from_weighty k again (x ∷ []) w short few apart some none dependent = absurd (not_alone x w (some 0 (omega arith)) dependent)
    from_weighty k again (x ∷ (y ∷ ys)) w short few apart some none dependent =
        elim (all_or_one_of (λ z. IsZeroPolynomial ring (E x (y ∷ ys) w dependent z)) (λ z. decide_zero (E x (y ∷ ys) w dependent z)) zs) [
          | inl alive ↦ result_of x (y ∷ ys) w dependent few alive
          | inr one ↦
              again (y ∷ ys) (spread ring element one.0 (y ∷ ys) (rest_weights x (y ∷ ys) w dependent)) (omega arith) (omega arith) apart.1
              (spread_nonzero laws element one.0 y ys (rest_weights x (y ∷ ys) w dependent) apart.1
              (away_nonzero laws element x.element (y ∷ ys) (rest_of w) apart.0 (λ i below. some (suc i) (omega arith))))
              (rest_dependent x (y ∷ ys) w dependent one.0 one.1)
        ]

    at_most : (a b k : ℕ) → a ≤ b → b ≤ k → a ≤ k
    at_most a b k h m = omega arith

    from_dependent : (k : ℕ) → Step k
    from_dependent zero xs w short few apart some dependent = absurd (some (λ i below. absurd (omega arith)))
    from_dependent (suc k) xs w short few apart some dependent =
        let c = weighty laws element xs w in
        from_weighty k (from_dependent k) c.members c.weights (at_most _ _ _ c.shorter short) (at_most _ _ _ c.shorter few) (c.apart apart) c.nonzero
        (λ e. some (c.none e)) (λ y b below. c.same (turned_by ring element b (locator_at y)) ∙ dependent y b below)

    -- ---- l (t + 1) + 1 locators are dependent

    module _ (places_apart : ArePointsApart n point) (enough_places : suc t ≤ n) (xs : List Locus_at) (as_many : length xs ≡ suc (l * suc t)) (apart : AreApart element xs) where
      abbrev row_at : ℕ → ℕ → ℕ → K
      row_at b i = row_of ring element (turned_by ring element b (locator_at (point i))) xs

      abbrev rows : List (ℕ → K)
      rows = table (suc t) row_at l

      fewer_rows : length rows < length xs
      fewer_rows = let size = table_length (suc t) row_at l in omega arith

      solution : Solution ring (length xs) rows
      solution = nonzero_solution laws (length xs) rows fewer_rows

      solved_at : (s : Solution ring (length xs) rows) (b i : ℕ) → b < l → i < suc t → total ring element (turned_by ring element b (locator_at (point i))) xs s.unknowns ≡ ring.zero
      solved_at s b i below under =
          sym (dot_of_row laws.of_ring element (turned_by ring element b (locator_at (point i))) xs s.unknowns)
          ∙ each_in_table (suc t) row_at (λ row. dot ring (length xs) row s.unknowns ≡ ring.zero) l s.solves b i below under

      all_places : suc t ≤ count (suc t) every_place
      all_places = let all = count_all (suc t) in omega arith

      is_dependent : (s : Solution ring (length xs) rows) → AreDependent xs s.unknowns
      is_dependent s y b below =
          let v = raised_by ring element b xs s.unknowns in
          let p = total_polynomial ring element (λ (x : Locus_at). x.locator) xs v in
          total_of_raised_by laws.of_ring element b (locator_at y) xs s.unknowns
          ∙ sym (value_of_total laws.of_ring element (λ x. x.locator) xs v y)
          ∙ value_of_zeros laws.of_ring p y
          (zero_at_places laws point (suc t) (suc t) every_place (λ i j less under. places_apart i j less (omega arith)) all_places p
          (total_below ring element (λ x. x.locator) (suc t) (λ x. x.locator_below) xs v)
          (λ i under _. value_of_total laws.of_ring element (λ x. x.locator) xs v (point i)
          ∙ sym (total_of_raised_by laws.of_ring element b (locator_at (point i)) xs s.unknowns) ∙ solved_at s b i below under))

      pub multiplier_of_many : Result
      multiplier_of_many =
          let s = solution in
          from_dependent (suc (l * suc t)) xs s.unknowns (omega arith) (omega arith) apart s.nonzero (is_dependent s)
