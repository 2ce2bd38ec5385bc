-- Sums over a list with weights, of which each member has an element: and what becomes of them as a polynomial that at a member's
-- element has that member's part alone.
use Rattle.std.specs.Prelude.{◌≡◌, ◌≢◌, ℕ, zero, suc, ◌+◌, ◌<◌, ◌≤◌, ⊤, List, [], ◌∷◌, length, refl}
use Rattle.std.specs.List.{AllByRecursion}
use Rattle.std.proofs.Common.{sym, ap, ◌∙◌, subst, inl, inr, arith}
use Rattle.std.proofs.lemmas.List.{length-map}
use Rattle.stark_support.specs.Ring.{RingOps, RingLaws, FieldLaws, difference}
use Rattle.stark_support.specs.RingFacts.{mul_zero, same_if_no_difference}
use Rattle.stark_support.specs.RingSolver.{solve, nothing, unit, opposite_of, variable, ◌⊕◌, ◌⊖◌, ◌⊗◌, v0, v1, v2, v3, v4, v5}
use Rattle.stark_support.specs.FieldFacts.{nonzero_product, zero_factor}
use Rattle.stark_support.specs.Interpolation.{times_root}
use Rattle.stark_support.specs.Polynomial.{value, polynomial_sum, scaled, HasDegreeBelow}
use Rattle.stark_support.specs.PolynomialFacts.{sum_length, value_of_constant, value_of_scaled, value_of_sum}
use Rattle.stark_fri_soundness.specs.LinearSystem.{AreZero, dot, prefixed}

abbrev pub rest_of : {K : Type 0} → (ℕ → K) → ℕ → K
rest_of w k = w (suc k)

-- No two members have one element.
abbrev pub AreApart : {K A : Type 0} → (A → K) → List A → Type 0
AreApart element [] = ⊤
AreApart element (x ∷ xs) = AllByRecursion (λ y. element x ≢ element y) xs × AreApart element xs

module _ {K A : Type 0} (ring : RingOps K) (element : A → K) where
  -- The sum of each weight times what h gives of the member.
  abbrev pub total : (A → K) → List A → (ℕ → K) → K
  total h [] w = ring.zero
  total h (x ∷ xs) w = ring.add (ring.mul (w zero) (h x)) (total h xs (rest_of w))

  -- The product of z less each member's element.
  abbrev pub gaps : K → List A → K
  gaps z [] = ring.one
  gaps z (x ∷ xs) = ring.mul (difference ring z (element x)) (gaps z xs)

  -- The sum with each part multiplied by the gaps of the other members.
  abbrev pub mixed : (A → K) → K → List A → (ℕ → K) → K
  mixed h z [] w = ring.zero
  mixed h z (x ∷ xs) w = ring.add (ring.mul (ring.mul (w zero) (gaps z xs)) (h x)) (ring.mul (difference ring z (element x)) (mixed h z xs (rest_of w)))

  -- h times the member's element, and times its b-th power.
  abbrev pub turned : (A → K) → A → K
  turned h x = ring.mul (h x) (element x)

  abbrev pub turned_by : ℕ → (A → K) → A → K
  turned_by zero h = h
  turned_by (suc b) h = turned_by b (turned h)

  -- The sums of h, and of h times each power below the l-th, are zero.
  abbrev pub Vanish : ℕ → (A → K) → List A → (ℕ → K) → Type 0
  Vanish l h xs w = (b : ℕ) → b < l → total (turned_by b h) xs w ≡ ring.zero

  -- Each weight times the member's element, and times its b-th power.
  abbrev raised : List A → (ℕ → K) → ℕ → K
  raised [] w = λ k. ring.zero
  raised (x ∷ xs) w = prefixed (ring.mul (w zero) (element x)) (raised xs (rest_of w))

  abbrev pub raised_by : ℕ → List A → (ℕ → K) → ℕ → K
  raised_by zero xs w = w
  raised_by (suc b) xs w = raised xs (raised_by b xs w)

  -- Each weight times how far the member's element is from z.
  abbrev pub away_from : K → List A → (ℕ → K) → ℕ → K
  away_from z [] w = λ k. ring.zero
  away_from z (x ∷ xs) w = prefixed (ring.mul (w zero) (difference ring (element x) z)) (away_from z xs (rest_of w))

  -- The weights that make a mixed sum at z a sum.
  abbrev pub spread : K → List A → (ℕ → K) → ℕ → K
  spread z [] w = λ k. ring.zero
  spread z (x ∷ xs) w = prefixed (ring.mul (w zero) (gaps z xs)) (λ k. ring.mul (difference ring z (element x)) (spread z xs (rest_of w) k))

  -- What h gives of each member, as a row.
  abbrev pub row_of : (A → K) → List A → ℕ → K
  row_of h [] = λ k. ring.zero
  row_of h (x ∷ xs) = prefixed (h x) (row_of h xs)

  -- ---- as polynomials

  abbrev pub total_polynomial : (A → List K) → List A → (ℕ → K) → List K
  total_polynomial p [] w = []
  total_polynomial p (x ∷ xs) w = polynomial_sum ring (scaled ring (w zero) (p x)) (total_polynomial p xs (rest_of w))

  -- At z, in another variable,
  abbrev pub mixed_polynomial : (A → List K) → K → List A → (ℕ → K) → List K
  mixed_polynomial p z [] w = []
  mixed_polynomial p z (x ∷ xs) w = polynomial_sum ring (scaled ring (ring.mul (w zero) (gaps z xs)) (p x)) (scaled ring (difference ring z (element x)) (mixed_polynomial p z xs (rest_of w)))

  -- and in z.
  abbrev pub gaps_polynomial : List A → List K
  gaps_polynomial [] = ring.one ∷ []
  gaps_polynomial (x ∷ xs) = times_root ring (element x) (gaps_polynomial xs)

  abbrev mixed_by_element : (A → K) → List A → (ℕ → K) → List K
  mixed_by_element h [] w = []
  mixed_by_element h (x ∷ xs) w = polynomial_sum ring (scaled ring (ring.mul (w zero) (h x)) (gaps_polynomial xs)) (times_root ring (element x) (mixed_by_element h xs (rest_of w)))

  -- in z once more, with l members less.
  abbrev pub by_element_after : ℕ → (A → K) → List A → (ℕ → K) → List K
  by_element_after zero h xs w = mixed_by_element h xs w
  by_element_after (suc l) h [] w = []
  by_element_after (suc l) h (x ∷ xs) w = by_element_after l h xs (away_from (element x) xs (rest_of w))

  -- ---- degrees

  scaled_length : (c : K) (p : List K) (n : ℕ) → HasDegreeBelow n p → HasDegreeBelow n (scaled ring c p)
  scaled_length c p n below = rw (length-map p (ring.mul c)) below

  root_below : (n : ℕ) (r : K) (p : List K) → HasDegreeBelow n p → HasDegreeBelow (suc n) (times_root ring r p)
  root_below n r p below = sum_length ring (ring.zero ∷ p) (scaled ring (ring.neg r) p) (suc n) (omega arith) (scaled_length (ring.neg r) p (suc n) (omega arith))

  pub gaps_below : (xs : List A) → HasDegreeBelow (suc (length xs)) (gaps_polynomial xs)
  gaps_below [] = omega arith
  gaps_below (x ∷ xs) = root_below (suc (length xs)) (element x) (gaps_polynomial xs) (gaps_below xs)

  by_element_below : (h : A → K) (xs : List A) (w : ℕ → K) → HasDegreeBelow (length xs) (mixed_by_element h xs w)
  by_element_below h [] w = omega arith
  by_element_below h (x ∷ xs) w =
      sum_length ring (scaled ring (ring.mul (w zero) (h x)) (gaps_polynomial xs)) (times_root ring (element x) (mixed_by_element h xs (rest_of w))) (suc (length xs))
      (scaled_length (ring.mul (w zero) (h x)) (gaps_polynomial xs) (suc (length xs)) (gaps_below xs))
      (root_below (length xs) (element x) (mixed_by_element h xs (rest_of w)) (by_element_below h xs (rest_of w)))

  pub after_below : (l m : ℕ) (h : A → K) (xs : List A) (w : ℕ → K) → length xs ≤ m + l → HasDegreeBelow m (by_element_after l h xs w)
  after_below zero m h xs w few = let below = by_element_below h xs w in omega (arith, below)
  after_below (suc l) m h [] w few = omega arith
  after_below (suc l) m h (x ∷ xs) w few = after_below l m h xs (away_from (element x) xs (rest_of w)) (omega arith)

  pub total_below : (p : A → List K) (n : ℕ) → ((x : A) → HasDegreeBelow n (p x)) → (xs : List A) (w : ℕ → K) → HasDegreeBelow n (total_polynomial p xs w)
  total_below p n below [] w = omega arith
  total_below p n below (x ∷ xs) w =
      sum_length ring (scaled ring (w zero) (p x)) (total_polynomial p xs (rest_of w)) n (scaled_length (w zero) (p x) n (below x)) (total_below p n below xs (rest_of w))

  pub mixed_below : (p : A → List K) (n : ℕ) → ((x : A) → HasDegreeBelow n (p x)) → (z : K) (xs : List A) (w : ℕ → K) → HasDegreeBelow n (mixed_polynomial p z xs w)
  mixed_below p n below z [] w = omega arith
  mixed_below p n below z (x ∷ xs) w =
      sum_length ring (scaled ring (ring.mul (w zero) (gaps z xs)) (p x)) (scaled ring (difference ring z (element x)) (mixed_polynomial p z xs (rest_of w))) n
      (scaled_length (ring.mul (w zero) (gaps z xs)) (p x) n (below x))
      (scaled_length (difference ring z (element x)) (mixed_polynomial p z xs (rest_of w)) n (mixed_below p n below z xs (rest_of w)))

-- ---- values

module _ {K A : Type 0} {ring : RingOps K} (laws : RingLaws ring) (element : A → K) where
  value_of_root : (r : K) (p : List K) (x : K) → value ring (times_root ring r p) x ≡ ring.mul (difference ring x r) (value ring p x)
  value_of_root r p x =
      value_of_sum laws (ring.zero ∷ p) (scaled ring (ring.neg r) p) x
      ∙ ap (λ w. ring.add (ring.add ring.zero (ring.mul (value ring p x) x)) w) (value_of_scaled laws (ring.neg r) p x)
      ∙ solve laws (r ∷ x ∷ value ring p x ∷ []) (nothing ⊕ v2 ⊗ v1 ⊕ opposite_of v0 ⊗ v2) ((v1 ⊖ v0) ⊗ v2) refl

  pub value_of_gaps : (xs : List A) (z : K) → value ring (gaps_polynomial ring element xs) z ≡ gaps ring element z xs
  value_of_gaps [] z = value_of_constant laws ring.one z
  value_of_gaps (x ∷ xs) z = value_of_root (element x) (gaps_polynomial ring element xs) z ∙ ap (ring.mul (difference ring z (element x))) (value_of_gaps xs z)

  value_by_element : (h : A → K) (xs : List A) (w : ℕ → K) (z : K) → value ring (mixed_by_element ring element h xs w) z ≡ mixed ring element h z xs w
  value_by_element h [] w z = refl
  value_by_element h (x ∷ xs) w z =
      value_of_sum laws (scaled ring (ring.mul (w zero) (h x)) (gaps_polynomial ring element xs)) (times_root ring (element x) (mixed_by_element ring element h xs (rest_of w))) z
      ∙ ap (λ t. ring.add t (value ring (times_root ring (element x) (mixed_by_element ring element h xs (rest_of w))) z))
      (value_of_scaled laws (ring.mul (w zero) (h x)) (gaps_polynomial ring element xs) z ∙ ap (ring.mul (ring.mul (w zero) (h x))) (value_of_gaps xs z)
      ∙ solve laws (w zero ∷ h x ∷ gaps ring element z xs ∷ []) (v0 ⊗ v1 ⊗ v2) (v0 ⊗ v2 ⊗ v1) refl)
      ∙ ap (ring.add (ring.mul (ring.mul (w zero) (gaps ring element z xs)) (h x)))
      (value_of_root (element x) (mixed_by_element ring element h xs (rest_of w)) z ∙ ap (ring.mul (difference ring z (element x))) (value_by_element h xs (rest_of w) z))

  pub value_of_total : (p : A → List K) (xs : List A) (w : ℕ → K) (y : K) → value ring (total_polynomial ring element p xs w) y ≡ total ring element (λ x. value ring (p x) y) xs w
  value_of_total p [] w y = refl
  value_of_total p (x ∷ xs) w y =
      value_of_sum laws (scaled ring (w zero) (p x)) (total_polynomial ring element p xs (rest_of w)) y
      ∙ ap (λ t. ring.add t (value ring (total_polynomial ring element p xs (rest_of w)) y)) (value_of_scaled laws (w zero) (p x) y)
      ∙ ap (ring.add (ring.mul (w zero) (value ring (p x) y))) (value_of_total p xs (rest_of w) y)

  pub value_of_mixed : (p : A → List K) (z : K) (xs : List A) (w : ℕ → K) (y : K) → value ring (mixed_polynomial ring element p z xs w) y ≡ mixed ring element (λ x. value ring (p x) y) z xs w
  value_of_mixed p z [] w y = refl
  value_of_mixed p z (x ∷ xs) w y =
      value_of_sum laws (scaled ring (ring.mul (w zero) (gaps ring element z xs)) (p x)) (scaled ring (difference ring z (element x)) (mixed_polynomial ring element p z xs (rest_of w))) y
      ∙ ap (λ t. ring.add t (value ring (scaled ring (difference ring z (element x)) (mixed_polynomial ring element p z xs (rest_of w))) y))
      (value_of_scaled laws (ring.mul (w zero) (gaps ring element z xs)) (p x) y)
      ∙ ap (ring.add (ring.mul (ring.mul (w zero) (gaps ring element z xs)) (value ring (p x) y)))
      (value_of_scaled laws (difference ring z (element x)) (mixed_polynomial ring element p z xs (rest_of w)) y ∙ ap (ring.mul (difference ring z (element x))) (value_of_mixed p z xs (rest_of w) y))

  -- ---- sums

  pub dot_of_row : (h : A → K) (xs : List A) (w : ℕ → K) → dot ring (length xs) (row_of ring element h xs) w ≡ total ring element h xs w
  dot_of_row h [] w = refl
  dot_of_row h (x ∷ xs) w =
      ap (ring.add (ring.mul (h x) (w zero))) (dot_of_row h xs (rest_of w))
      ∙ ap (λ t. ring.add t (total ring element h xs (rest_of w))) (laws.mul_comm (h x) (w zero))

  total_of_multiples : (h : A → K) (c : K) (xs : List A) (w : ℕ → K) → total ring element h xs (λ k. ring.mul c (w k)) ≡ ring.mul c (total ring element h xs w)
  total_of_multiples h c [] w = sym (mul_zero laws c)
  total_of_multiples h c (x ∷ xs) w =
      ap (ring.add (ring.mul (ring.mul c (w zero)) (h x))) (total_of_multiples h c xs (rest_of w))
      ∙ solve laws (c ∷ w zero ∷ h x ∷ total ring element h xs (rest_of w) ∷ []) (v0 ⊗ v1 ⊗ v2 ⊕ v0 ⊗ v3) (v0 ⊗ (v1 ⊗ v2 ⊕ v3)) refl

  pub total_of_spread : (h : A → K) (z : K) (xs : List A) (w : ℕ → K) → total ring element h xs (spread ring element z xs w) ≡ mixed ring element h z xs w
  total_of_spread h z [] w = refl
  total_of_spread h z (x ∷ xs) w =
      ap (ring.add (ring.mul (ring.mul (w zero) (gaps ring element z xs)) (h x)))
      (total_of_multiples h (difference ring z (element x)) xs (spread ring element z xs (rest_of w)) ∙ ap (ring.mul (difference ring z (element x))) (total_of_spread h z xs (rest_of w)))

  mixed_away : (h : A → K) (z a : K) (xs : List A) (w : ℕ → K) → mixed ring element h z xs (away_from ring element a xs w)
      ≡ difference ring (ring.mul (difference ring z a) (mixed ring element h z xs w)) (ring.mul (gaps ring element z xs) (total ring element h xs w))
  mixed_away h z a [] w = solve laws (z ∷ a ∷ []) nothing ((v0 ⊖ v1) ⊗ nothing ⊖ unit ⊗ nothing) refl
  mixed_away h z a (x ∷ xs) w =
      ap (λ t. ring.add (ring.mul (ring.mul (ring.mul (w zero) (difference ring (element x) a)) (gaps ring element z xs)) (h x)) (ring.mul (difference ring z (element x)) t)) (mixed_away h z a xs (rest_of w))
      ∙ solve laws (w zero ∷ element x ∷ a ∷ gaps ring element z xs ∷ h x ∷ z ∷ mixed ring element h z xs (rest_of w) ∷ total ring element h xs (rest_of w) ∷ [])
      (v0 ⊗ (v1 ⊖ v2) ⊗ v3 ⊗ v4 ⊕ (v5 ⊖ v1) ⊗ ((v5 ⊖ v2) ⊗ variable 6 ⊖ v3 ⊗ variable 7))
      ((v5 ⊖ v2) ⊗ (v0 ⊗ v3 ⊗ v4 ⊕ (v5 ⊖ v1) ⊗ variable 6) ⊖ (v5 ⊖ v1) ⊗ v3 ⊗ (v0 ⊗ v4 ⊕ variable 7)) refl

  -- Where the sum is zero, the mixed sum takes one member less.
  pub mixed_of_rest : (h : A → K) (z : K) (x : A) (xs : List A) (w : ℕ → K) → total ring element h (x ∷ xs) w ≡ ring.zero
      → mixed ring element h z (x ∷ xs) w ≡ mixed ring element h z xs (away_from ring element (element x) xs (rest_of w))
  mixed_of_rest h z x xs w none =
      solve laws (w zero ∷ gaps ring element z xs ∷ h x ∷ difference ring z (element x) ∷ mixed ring element h z xs (rest_of w) ∷ total ring element h xs (rest_of w) ∷ [])
      (v0 ⊗ v1 ⊗ v2 ⊕ v3 ⊗ v4) (v3 ⊗ v4 ⊖ v1 ⊗ v5 ⊕ v1 ⊗ (v0 ⊗ v2 ⊕ v5)) refl
      ∙ ap (λ t. ring.add (difference ring (ring.mul (difference ring z (element x)) (mixed ring element h z xs (rest_of w))) (ring.mul (gaps ring element z xs) (total ring element h xs (rest_of w)))) (ring.mul (gaps ring element z xs) t)) none
      ∙ solve laws (difference ring (ring.mul (difference ring z (element x)) (mixed ring element h z xs (rest_of w))) (ring.mul (gaps ring element z xs) (total ring element h xs (rest_of w))) ∷ gaps ring element z xs ∷ [])
      (v0 ⊕ v1 ⊗ nothing) v0 refl
      ∙ sym (mixed_away h z (element x) xs (rest_of w))

  -- ---- powers of the elements

  total_same : (h k : A → K) → ((x : A) → h x ≡ k x) → (xs : List A) (w : ℕ → K) → total ring element h xs w ≡ total ring element k xs w
  total_same h k same [] w = refl
  total_same h k same (x ∷ xs) w =
      ap (λ t. ring.add (ring.mul (w zero) t) (total ring element h xs (rest_of w))) (same x) ∙ ap (ring.add (ring.mul (w zero) (k x))) (total_same h k same xs (rest_of w))

  pub mixed_same : (h k : A → K) → ((x : A) → h x ≡ k x) → (z : K) (xs : List A) (w : ℕ → K) → mixed ring element h z xs w ≡ mixed ring element k z xs w
  mixed_same h k same z [] w = refl
  mixed_same h k same z (x ∷ xs) w =
      ap (λ t. ring.add (ring.mul (ring.mul (w zero) (gaps ring element z xs)) t) (ring.mul (difference ring z (element x)) (mixed ring element h z xs (rest_of w)))) (same x)
      ∙ ap (λ t. ring.add (ring.mul (ring.mul (w zero) (gaps ring element z xs)) (k x)) (ring.mul (difference ring z (element x)) t)) (mixed_same h k same z xs (rest_of w))

  total_of_sum : (a : K) (h k : A → K) (xs : List A) (w : ℕ → K) → total ring element (λ x. ring.add (ring.mul a (h x)) (k x)) xs w ≡ ring.add (ring.mul a (total ring element h xs w)) (total ring element k xs w)
  total_of_sum a h k [] w = solve laws (a ∷ []) nothing (v0 ⊗ nothing ⊕ nothing) refl
  total_of_sum a h k (x ∷ xs) w =
      ap (ring.add (ring.mul (w zero) (ring.add (ring.mul a (h x)) (k x)))) (total_of_sum a h k xs (rest_of w))
      ∙ solve laws (w zero ∷ a ∷ h x ∷ k x ∷ total ring element h xs (rest_of w) ∷ total ring element k xs (rest_of w) ∷ [])
      (v0 ⊗ (v1 ⊗ v2 ⊕ v3) ⊕ (v1 ⊗ v4 ⊕ v5)) (v1 ⊗ (v0 ⊗ v2 ⊕ v4) ⊕ (v0 ⊗ v3 ⊕ v5)) refl

  mixed_of_sum : (a : K) (h k : A → K) (z : K) (xs : List A) (w : ℕ → K)
      → mixed ring element (λ x. ring.add (ring.mul a (h x)) (k x)) z xs w ≡ ring.add (ring.mul a (mixed ring element h z xs w)) (mixed ring element k z xs w)
  mixed_of_sum a h k z [] w = solve laws (a ∷ []) nothing (v0 ⊗ nothing ⊕ nothing) refl
  mixed_of_sum a h k z (x ∷ xs) w =
      ap (λ t. ring.add (ring.mul (ring.mul (w zero) (gaps ring element z xs)) (ring.add (ring.mul a (h x)) (k x))) (ring.mul (difference ring z (element x)) t)) (mixed_of_sum a h k z xs (rest_of w))
      ∙ solve laws (ring.mul (w zero) (gaps ring element z xs) ∷ a ∷ h x ∷ k x ∷ mixed ring element h z xs (rest_of w) ∷ mixed ring element k z xs (rest_of w) ∷ difference ring z (element x) ∷ [])
      (v0 ⊗ (v1 ⊗ v2 ⊕ v3) ⊕ variable 6 ⊗ (v1 ⊗ v4 ⊕ v5)) (v1 ⊗ (v0 ⊗ v2 ⊕ variable 6 ⊗ v4) ⊕ (v0 ⊗ v3 ⊕ variable 6 ⊗ v5)) refl

  total_of_nothing : (h : A → K) (xs : List A) (w : ℕ → K) → total ring element (λ x. ring.mul (h x) ring.zero) xs w ≡ ring.zero
  total_of_nothing h [] w = refl
  total_of_nothing h (x ∷ xs) w =
      ap (ring.add (ring.mul (w zero) (ring.mul (h x) ring.zero))) (total_of_nothing h xs (rest_of w)) ∙ solve laws (w zero ∷ h x ∷ []) (v0 ⊗ (v1 ⊗ nothing) ⊕ nothing) nothing refl

  mixed_of_nothing : (h : A → K) (z : K) (xs : List A) (w : ℕ → K) → mixed ring element (λ x. ring.mul (h x) ring.zero) z xs w ≡ ring.zero
  mixed_of_nothing h z [] w = refl
  mixed_of_nothing h z (x ∷ xs) w =
      ap (λ t. ring.add (ring.mul (ring.mul (w zero) (gaps ring element z xs)) (ring.mul (h x) ring.zero)) (ring.mul (difference ring z (element x)) t)) (mixed_of_nothing h z xs (rest_of w))
      ∙ solve laws (ring.mul (w zero) (gaps ring element z xs) ∷ h x ∷ difference ring z (element x) ∷ []) (v0 ⊗ (v1 ⊗ nothing) ⊕ v2 ⊗ nothing) nothing refl

  total_away : (h : A → K) (a : K) (xs : List A) (w : ℕ → K)
      → total ring element h xs (away_from ring element a xs w) ≡ difference ring (total ring element (turned ring element h) xs w) (ring.mul a (total ring element h xs w))
  total_away h a [] w = solve laws (a ∷ []) nothing (nothing ⊖ v0 ⊗ nothing) refl
  total_away h a (x ∷ xs) w =
      ap (ring.add (ring.mul (ring.mul (w zero) (difference ring (element x) a)) (h x))) (total_away h a xs (rest_of w))
      ∙ solve laws (w zero ∷ element x ∷ a ∷ h x ∷ total ring element (turned ring element h) xs (rest_of w) ∷ total ring element h xs (rest_of w) ∷ [])
      (v0 ⊗ (v1 ⊖ v2) ⊗ v3 ⊕ (v4 ⊖ v2 ⊗ v5)) (v0 ⊗ (v3 ⊗ v1) ⊕ v4 ⊖ v2 ⊗ (v0 ⊗ v3 ⊕ v5)) refl

  mixed_turned : (h : A → K) (z : K) (xs : List A) (w : ℕ → K)
      → mixed ring element (turned ring element h) z xs w ≡ difference ring (ring.mul z (mixed ring element h z xs w)) (ring.mul (gaps ring element z xs) (total ring element h xs w))
  mixed_turned h z [] w = solve laws (z ∷ []) nothing (v0 ⊗ nothing ⊖ unit ⊗ nothing) refl
  mixed_turned h z (x ∷ xs) w =
      ap (λ t. ring.add (ring.mul (ring.mul (w zero) (gaps ring element z xs)) (ring.mul (h x) (element x))) (ring.mul (difference ring z (element x)) t)) (mixed_turned h z xs (rest_of w))
      ∙ solve laws (w zero ∷ gaps ring element z xs ∷ h x ∷ element x ∷ z ∷ mixed ring element h z xs (rest_of w) ∷ total ring element h xs (rest_of w) ∷ [])
      (v0 ⊗ v1 ⊗ (v2 ⊗ v3) ⊕ (v4 ⊖ v3) ⊗ (v4 ⊗ v5 ⊖ v1 ⊗ variable 6)) (v4 ⊗ (v0 ⊗ v1 ⊗ v2 ⊕ (v4 ⊖ v3) ⊗ v5) ⊖ (v4 ⊖ v3) ⊗ v1 ⊗ (v0 ⊗ v2 ⊕ variable 6)) refl

  turned_once_more : (b : ℕ) (h : A → K) (x : A) → turned_by ring element (suc b) h x ≡ ring.mul (turned_by ring element b h x) (element x)
  turned_once_more zero h x = refl
  turned_once_more (suc b) h x = turned_once_more b (turned ring element h) x

  total_of_raised : (h : A → K) (xs : List A) (w : ℕ → K) → total ring element (turned ring element h) xs w ≡ total ring element h xs (raised ring element xs w)
  total_of_raised h [] w = refl
  total_of_raised h (x ∷ xs) w =
      ap (ring.add (ring.mul (w zero) (ring.mul (h x) (element x)))) (total_of_raised h xs (rest_of w))
      ∙ solve laws (w zero ∷ h x ∷ element x ∷ total ring element h xs (raised ring element xs (rest_of w)) ∷ []) (v0 ⊗ (v1 ⊗ v2) ⊕ v3) (v0 ⊗ v2 ⊗ v1 ⊕ v3) refl

  pub total_of_raised_by : (b : ℕ) (h : A → K) (xs : List A) (w : ℕ → K) → total ring element (turned_by ring element b h) xs w ≡ total ring element h xs (raised_by ring element b xs w)
  total_of_raised_by zero h xs w = refl
  total_of_raised_by (suc b) h xs w = total_of_raised_by b (turned ring element h) xs w ∙ total_of_raised h xs (raised_by ring element b xs w)

  vanish_turned : (l : ℕ) (h : A → K) (xs : List A) (w : ℕ → K) → Vanish ring element (suc l) h xs w → Vanish ring element l (turned ring element h) xs w
  vanish_turned l h xs w vanish b below = vanish (suc b) (omega arith)

  -- Where the sums vanish, they do with a member less.
  vanish_away : (l : ℕ) (h : A → K) (x : A) (xs : List A) (w : ℕ → K) → Vanish ring element (suc l) h (x ∷ xs) w → Vanish ring element l h xs (away_from ring element (element x) xs (rest_of w))
  vanish_away l h x xs w vanish b below =
      let k = turned_by ring element b h in
      total_away k (element x) xs (rest_of w)
      ∙ solve laws (w zero ∷ k x ∷ element x ∷ total ring element (turned ring element k) xs (rest_of w) ∷ total ring element k xs (rest_of w) ∷ [])
      (v3 ⊖ v2 ⊗ v4) (v0 ⊗ (v1 ⊗ v2) ⊕ v3 ⊖ v2 ⊗ (v0 ⊗ v1 ⊕ v4)) refl
      ∙ ap (λ t. difference ring t (ring.mul (element x) (total ring element k (x ∷ xs) w)))
      (sym (total_same (turned_by ring element (suc b) h) (turned ring element k) (turned_once_more b h) (x ∷ xs) w) ∙ vanish (suc b) (omega arith))
      ∙ ap (λ t. difference ring ring.zero (ring.mul (element x) t)) (vanish b (omega arith))
      ∙ solve laws (element x ∷ []) (nothing ⊖ v0 ⊗ nothing) nothing refl

  pub value_after : (l : ℕ) (h : A → K) (xs : List A) (w : ℕ → K) → Vanish ring element l h xs w → (z : K) → value ring (by_element_after ring element l h xs w) z ≡ mixed ring element h z xs w
  value_after zero h xs w vanish z = value_by_element h xs w z
  value_after (suc l) h [] w vanish z = refl
  value_after (suc l) h (x ∷ xs) w vanish z =
      value_after l h xs (away_from ring element (element x) xs (rest_of w)) (vanish_away l h x xs w vanish) z
      ∙ sym (mixed_of_rest h z x xs w (vanish 0 (omega arith)))

  -- ---- values of polynomials at the elements

  values_step : (a : K) (p : List K) (h : A → K) (x : A) → ring.mul (h x) (value ring (a ∷ p) (element x)) ≡ ring.add (ring.mul a (h x)) (ring.mul (turned ring element h x) (value ring p (element x)))
  values_step a p h x = solve laws (a ∷ h x ∷ element x ∷ value ring p (element x) ∷ []) (v1 ⊗ (v0 ⊕ v3 ⊗ v2)) (v0 ⊗ v1 ⊕ v1 ⊗ v2 ⊗ v3) refl

  total_of_values : (p : List K) (l : ℕ) (h : A → K) (xs : List A) (w : ℕ → K) → length p ≤ l → Vanish ring element l h xs w → total ring element (λ x. ring.mul (h x) (value ring p (element x))) xs w ≡ ring.zero
  total_of_values [] l h xs w few vanish = total_of_nothing h xs w
  total_of_values (a ∷ p) zero h xs w few vanish = absurd (omega arith)
  total_of_values (a ∷ p) (suc l) h xs w few vanish =
      total_same (λ x. ring.mul (h x) (value ring (a ∷ p) (element x))) (λ x. ring.add (ring.mul a (h x)) (ring.mul (turned ring element h x) (value ring p (element x)))) (values_step a p h) xs w
      ∙ total_of_sum a h (λ x. ring.mul (turned ring element h x) (value ring p (element x))) xs w
      ∙ ap (λ t. ring.add (ring.mul a t) (total ring element (λ x. ring.mul (turned ring element h x) (value ring p (element x))) xs w)) (vanish 0 (omega arith))
      ∙ ap (ring.add (ring.mul a ring.zero)) (total_of_values p l (turned ring element h) xs w (omega arith) (vanish_turned l h xs w vanish))
      ∙ solve laws (a ∷ []) (v0 ⊗ nothing ⊕ nothing) nothing refl

  back_turned : (p : List K) (h : A → K) (x : A) → ring.mul (turned ring element h x) (value ring p (element x)) ≡ turned ring element (λ y. ring.mul (h y) (value ring p (element y))) x
  back_turned p h x = solve laws (h x ∷ element x ∷ value ring p (element x) ∷ []) (v0 ⊗ v1 ⊗ v2) (v0 ⊗ v2 ⊗ v1) refl

  -- Each part times a polynomial's value at its element: where the sums vanish, the mixed sum at z is multiplied by the value at z.
  pub mixed_of_values : (p : List K) (l : ℕ) (h : A → K) (z : K) (xs : List A) (w : ℕ → K) → length p ≤ suc l → Vanish ring element l h xs w
      → mixed ring element (λ x. ring.mul (h x) (value ring p (element x))) z xs w ≡ ring.mul (mixed ring element h z xs w) (value ring p z)
  mixed_of_values [] l h z xs w few vanish = mixed_of_nothing h z xs w ∙ sym (mul_zero laws (mixed ring element h z xs w))
  mixed_of_values (a ∷ p) l h z xs w few vanish =
      let k = λ (x : A). ring.mul (h x) (value ring p (element x)) in
      mixed_same (λ x. ring.mul (h x) (value ring (a ∷ p) (element x))) (λ x. ring.add (ring.mul a (h x)) (turned ring element k x)) (λ x. values_step a p h x ∙ ap (ring.add (ring.mul a (h x))) (back_turned p h x)) z xs w
      ∙ mixed_of_sum a h (turned ring element k) z xs w
      ∙ ap (ring.add (ring.mul a (mixed ring element h z xs w)))
      (mixed_turned k z xs w
      ∙ ap (λ t. difference ring (ring.mul z (mixed ring element k z xs w)) (ring.mul (gaps ring element z xs) t)) (total_of_values p l h xs w (omega arith) vanish)
      ∙ ap (λ t. difference ring (ring.mul z t) (ring.mul (gaps ring element z xs) ring.zero)) (mixed_of_values p l h z xs w (omega arith) vanish))
      ∙ solve laws (a ∷ mixed ring element h z xs w ∷ z ∷ value ring p z ∷ gaps ring element z xs ∷ []) (v0 ⊗ v1 ⊕ (v2 ⊗ (v1 ⊗ v3) ⊖ v4 ⊗ nothing)) (v1 ⊗ (v0 ⊕ v3 ⊗ v2)) refl

  -- Where the mixed sum is zero too, so is that of h times each power.
  pub mixed_vanishes : (b l : ℕ) (h : A → K) (z : K) (xs : List A) (w : ℕ → K) → b < l → Vanish ring element l h xs w → mixed ring element h z xs w ≡ ring.zero
      → mixed ring element (turned_by ring element b h) z xs w ≡ ring.zero
  mixed_vanishes zero l h z xs w below vanish none = none
  mixed_vanishes (suc b) zero h z xs w below vanish none = absurd (omega arith)
  mixed_vanishes (suc b) (suc l) h z xs w below vanish none =
      mixed_vanishes b l (turned ring element h) z xs w (omega arith) (vanish_turned l h xs w vanish)
      (mixed_turned h z xs w
      ∙ ap (λ t. difference ring (ring.mul z t) (ring.mul (gaps ring element z xs) (total ring element h xs w))) none
      ∙ ap (λ t. difference ring (ring.mul z ring.zero) (ring.mul (gaps ring element z xs) t)) (vanish 0 (omega arith))
      ∙ solve laws (z ∷ gaps ring element z xs ∷ []) (v0 ⊗ nothing ⊖ v1 ⊗ nothing) nothing refl)

-- ---- weights that aren't zero

cons_not_nil : {A : Type 0} (x : A) (xs : List A) → (x ∷ xs) ≡ [] → ⊥
cons_not_nil x xs e = cc

module _ {K A : Type 0} {ring : RingOps K} {inverse : K → K} (laws : FieldLaws ring inverse) (element : A → K) where
  pub gaps_nonzero : (z : K) (xs : List A) → AllByRecursion (λ y. z ≢ element y) xs → gaps ring element z xs ≢ ring.zero
  gaps_nonzero z [] apart = laws.one_not_zero
  gaps_nonzero z (x ∷ xs) apart =
      nonzero_product laws (difference ring z (element x)) (gaps ring element z xs) (λ same. apart.0 (same_if_no_difference laws.of_ring z (element x) same)) (gaps_nonzero z xs apart.1)

  pub away_nonzero : (a : K) (xs : List A) (w : ℕ → K) → AllByRecursion (λ y. a ≢ element y) xs → ((k : ℕ) → k < length xs → w k ≢ ring.zero)
      → (k : ℕ) → k < length xs → away_from ring element a xs w k ≢ ring.zero
  away_nonzero a [] w apart some k below = absurd (omega arith)
  away_nonzero a (x ∷ xs) w apart some zero below =
      nonzero_product laws (w zero) (difference ring (element x) a) (some 0 below) (λ same. apart.0 (sym (same_if_no_difference laws.of_ring (element x) a same)))
  away_nonzero a (x ∷ xs) w apart some (suc k) below = away_nonzero a xs (rest_of w) apart.1 (λ i under. some (suc i) (omega arith)) k (omega arith)

  -- Of weights that aren't zero some stay so where they are spread.
  pub spread_nonzero : (z : K) (x : A) (xs : List A) (w : ℕ → K) → AreApart element (x ∷ xs) → ((k : ℕ) → k < suc (length xs) → w k ≢ ring.zero)
      → AreZero ring (suc (length xs)) (spread ring element z (x ∷ xs) w) → ⊥
  spread_nonzero z x [] w apart some zeros = nonzero_product laws (w zero) ring.one (some 0 (omega arith)) laws.one_not_zero (zeros 0 (omega arith))
  spread_nonzero z x (y ∷ ys) w apart some zeros = elim (laws.decides z (element x)) [
    | inl same ↦ nonzero_product laws (w zero) (gaps ring element z (y ∷ ys)) (some 0 (omega arith))
        (gaps_nonzero z (y ∷ ys) (subst (λ t. AllByRecursion (λ v. t ≢ element v) (y ∷ ys)) (sym same) apart.0)) (zeros 0 (omega arith))
    | inr differs ↦ spread_nonzero z y ys (rest_of w) apart.1 (λ k below. some (suc k) (omega arith))
        (λ k below. zero_factor laws (difference ring z (element x)) (spread ring element z (y ∷ ys) (rest_of w) k)
        (λ none. differs (same_if_no_difference laws.of_ring z (element x) none)) (zeros (suc k) (omega arith)))
  ]

  -- The members whose weights aren't zero.
  pub record Weighty (xs : List A) (w : ℕ → K) : Type 0 where
    pub members : List A
    pub weights : ℕ → K
    pub shorter : length members ≤ length xs
    pub same : (h : A → K) → total ring element h members weights ≡ total ring element h xs w
    pub nonzero : (k : ℕ) → k < length members → weights k ≢ ring.zero
    pub none : members ≡ [] → AreZero ring (length xs) w
    kept : (z : K) → AllByRecursion (λ y. z ≢ element y) xs → AllByRecursion (λ y. z ≢ element y) members
    pub apart : AreApart element xs → AreApart element members

  zero_and_rest : (n : ℕ) (w : ℕ → K) → w zero ≡ ring.zero → AreZero ring n (rest_of w) → AreZero ring (suc n) w
  zero_and_rest n w here rest zero below = here
  zero_and_rest n w here rest (suc k) below = rest k (omega arith)

  first_and_rest : (n : ℕ) (t : K) (v : ℕ → K) → t ≢ ring.zero → ((k : ℕ) → k < n → v k ≢ ring.zero) → (k : ℕ) → k < suc n → prefixed t v k ≢ ring.zero
  first_and_rest n t v here rest zero below = here
  first_and_rest n t v here rest (suc k) below = rest k (omega arith)

  one_longer : (a b : ℕ) → a ≤ b → suc a ≤ suc b
  one_longer a b h = omega arith

  still_longer : (a b : ℕ) → a ≤ b → a ≤ suc b
  still_longer a b h = omega arith

  pub weighty : (xs : List A) (w : ℕ → K) → Weighty xs w
  weighty [] w = record {
    members = [];
    weights = w;
    shorter = omega arith;
    same = λ h. refl;
    nonzero = λ k below. absurd (omega arith);
    none = λ e k below. absurd (omega arith);
    kept = λ z h. h;
    apart = λ h. h;
  }
  weighty (x ∷ xs) w =
      let rest = weighty xs (rest_of w) in
      elim (laws.decides (w zero) ring.zero) [
        | inl none ↦ record {
          members = rest.members;
          weights = rest.weights;
          shorter = still_longer (length rest.members) (length xs) rest.shorter;
          same = λ h. rest.same h ∙ solve laws.of_ring (h x ∷ total ring element h xs (rest_of w) ∷ []) v1 (nothing ⊗ v0 ⊕ v1) refl
              ∙ ap (λ t. ring.add (ring.mul t (h x)) (total ring element h xs (rest_of w))) (sym none);
          nonzero = rest.nonzero;
          none = λ e. zero_and_rest (length xs) w none (rest.none e);
          kept = λ z h. rest.kept z h.1;
          apart = λ h. rest.apart h.1;
        }
        | inr some ↦ record {
          members = x ∷ rest.members;
          weights = prefixed (w zero) rest.weights;
          shorter = one_longer (length rest.members) (length xs) rest.shorter;
          same = λ h. ap (ring.add (ring.mul (w zero) (h x))) (rest.same h);
          nonzero = first_and_rest (length rest.members) (w zero) rest.weights some rest.nonzero;
          none = λ e. absurd (cons_not_nil x rest.members e);
          kept = λ z h. (h.0, rest.kept z h.1);
          apart = λ h. (rest.kept (element x) h.0, rest.apart h.1);
        }
      ]
