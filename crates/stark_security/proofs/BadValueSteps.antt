-- Bad alphas and zetas are few, and so are the pairs of draws with which a broken trace passes.
use Rattle.std.proofs.Common.{◌≡◌, ◌⊎◌, ◌∙◌, ap, sym, subst, refl, arith, inl, inr, ℕ, zero, suc, ◌+◌, ◌-◌, ◌<◌, ◌≤◌, List, [], ◌∷◌, ◌++◌, map, length}
use Rattle.std.proofs.lemmas.List.{length-map, length-append}
use Rattle.std.specs.List.{AllByRecursion}
use Rattle.stark_support.specs.Ring.{RingOps, RingLaws, FieldLaws, difference}
use Rattle.stark_support.specs.RingFacts.{same_if_no_difference, zero_mul}
use Rattle.stark_support.specs.RingSolver.{solve, nothing, unit, ◌⊕◌, ◌⊗◌, v0, v1, v2, v3, v4}
use Rattle.stark_support.specs.Powers.{power}
use Rattle.stark_support.specs.Coset.{subgroup_vanishing}
use Rattle.stark_support.specs.DivisionFacts.{vanishes_on_subgroup}
use Rattle.stark_support.specs.Polynomial.{value, IsRoot, IsZeroPolynomial, HoldsOfAtMost}
use Rattle.stark_support.specs.PolynomialFacts.{few_roots, value_of_zeros}
use Rattle.stark_support.specs.RecompositionPolynomial.{ChunksFit}
use Rattle.stark_parts.specs.Folded.{folded}
use Rattle.stark_security.specs.ConstraintPolynomial.{AirInstance, Columns, height, constraints_at, folded_at, quotient_at, equation_polynomial}
use Rattle.stark_security.specs.DegreeBound.{alpha_bound, zeta_bound}
use Rattle.stark_security.specs.BadValues.{ColumnsFit, point, RowHolds, Satisfies, IsFirstBrokenRow, IsBadAlpha, IsBalanced, IsBadZeta}
use Rattle.stark_security.proofs.ConstraintSteps.{value_of_equation}
use Rattle.stark_security.proofs.ConstraintDegrees.{degree_of_equation}

all_map : {A : Type 0} {P : A → Type 0} {Q : A → Type 0} → ((x : A) → P x → Q x) → (xs : List A) → AllByRecursion P xs → AllByRecursion Q xs
all_map f [] h = tt
all_map f (x ∷ xs) h = (f x h.0, all_map f xs h.1)

-- What holds of fewer values holds of at most as many.
fewer_hold : {K : Type 0} {P : K → Type 0} {Q : K → Type 0} (n : ℕ) → ((x : K) → P x → Q x) → HoldsOfAtMost n Q → HoldsOfAtMost n P
fewer_hold n f bound xs distinct holds = bound xs distinct (all_map f xs holds)

abbrev backwards : {K : Type 0} → List K → List K
backwards [] = []
backwards (c ∷ cs) = backwards cs ++ (c ∷ [])

length_backwards : {K : Type 0} (cs : List K) → length (backwards cs) ≡ length cs
length_backwards [] = refl
length_backwards (c ∷ cs) = length-append (backwards cs) (c ∷ []) ∙ rw (length_backwards cs) (omega arith)

all_parts : {K : Type 0} (P : K → Type 0) (xs ys : List K) → AllByRecursion P (xs ++ ys) → AllByRecursion P xs × AllByRecursion P ys
all_parts P [] ys h = (tt, h)
all_parts P (x ∷ xs) ys h = let rest = all_parts P xs ys h.1 in ((h.0, rest.0), rest.1)

all_backwards : {K : Type 0} (P : K → Type 0) (cs : List K) → AllByRecursion P (backwards cs) → AllByRecursion P cs
all_backwards P [] h = tt
all_backwards P (c ∷ cs) h = let parts = all_parts P (backwards cs) (c ∷ []) h in (parts.1.0, all_backwards P cs parts.0)

plus_one : (d l : ℕ) → l ≤ suc d → l ≤ d + 1
plus_one d l h = omega arith

count_bound : (n l : ℕ) → l ≡ n → l ≤ n - 1 + 1
count_bound n l h = omega arith

module _ {K : Type 0} {ring : RingOps K} (laws : RingLaws ring) where
  power_none : (x : K) → power ring x 0 ≡ ring.one
  unfolding power
  power_none x = refl

  power_more : (x : K) (n : ℕ) → power ring x (suc n) ≡ ring.mul x (power ring x n)
  unfolding power
  power_more x n = refl

  value_of_append : (p : List K) (c x : K) → value ring (p ++ (c ∷ [])) x ≡ ring.add (value ring p x) (ring.mul (power ring x (length p)) c)
  value_of_append [] c x = solve laws (c ∷ x ∷ []) (v0 ⊕ nothing ⊗ v1) (nothing ⊕ unit ⊗ v0) refl ∙ ap (λ w. ring.add ring.zero (ring.mul w c)) (sym (power_none x))
  value_of_append (d ∷ p) c x =
      ap (λ w. ring.add d (ring.mul w x)) (value_of_append p c x) ∙
      solve laws (c ∷ d ∷ x ∷ value ring p x ∷ power ring x (length p) ∷ []) (v1 ⊕ (v3 ⊕ v4 ⊗ v0) ⊗ v2) (v1 ⊕ v3 ⊗ v2 ⊕ v2 ⊗ v4 ⊗ v0) refl ∙
      ap (λ w. ring.add (ring.add d (ring.mul (value ring p x) x)) (ring.mul w c)) (sym (power_more x (length p)))

  -- The folded sum is a polynomial in alpha.
  folded_is_value : (a : K) (cs : List K) → folded ring a cs ≡ value ring (backwards cs) a
  folded_is_value a [] = refl
  folded_is_value a (c ∷ cs) =
      ap (ring.add (ring.mul (power ring a (length cs)) c)) (folded_is_value a cs) ∙
      laws.add_comm _ _ ∙
      ap (λ l. ring.add (value ring (backwards cs) a) (ring.mul (power ring a l) c)) (sym (length_backwards cs)) ∙
      sym (value_of_append (backwards cs) c a)

  no_difference : (x y : K) → x ≡ y → difference ring x y ≡ ring.zero
  no_difference x y h = ap (λ w. difference ring w y) h ∙ laws.add_neg y

-- At most n - 1 alphas fold n values that aren't all zero to zero.
few_alphas_fold_to_zero : {K : Type 0} {ring : RingOps K} {inverse : K → K} (laws : FieldLaws ring inverse) (cs : List K) → (AllByRecursion (λ c. c ≡ ring.zero) cs → ⊥) → HoldsOfAtMost (length cs - 1) (λ a. folded ring a cs ≡ ring.zero)
few_alphas_fold_to_zero {ring = ring} laws cs nonzero =
    fewer_hold {Q = IsRoot ring (backwards cs)} (length cs - 1) (λ a h. sym (folded_is_value laws.of_ring a cs) ∙ h)
    (few_roots laws (length cs - 1) (backwards cs) (count_bound (length cs) (length (backwards cs)) (length_backwards cs)) (λ zeros. nonzero (all_backwards (λ c. c ≡ ring.zero) cs zeros)))

below_or_same : (l n : ℕ) → l < suc n → (l < n) ⊎ (l ≡ n)
below_or_same l n h = grind (arith, h)

three_ways : (k l : ℕ) → (k < l) ⊎ ((l < k) ⊎ (k ≡ l))
three_ways k l = grind arith

-- the constraints' values are as many as the constraints
as_many : {A B : Type 0} (f : A → B) (xs : List A) → length (map f xs) - 1 ≡ length xs - 1
as_many f xs = ap (λ l. l - 1) (length-map xs f)

module _ {F E : Type 0} (i : AirInstance F E) (laws : FieldLaws i.ring i.inverse) (columns : Columns F E) where
  all_or_not : (xs : List E) → AllByRecursion (λ c. c ≡ i.ring.zero) xs ⊎ (AllByRecursion (λ c. c ≡ i.ring.zero) xs → ⊥)
  all_or_not [] = inl tt
  all_or_not (x ∷ xs) =
      elim (laws.decides x i.ring.zero) [
        | inl same ↦ elim (all_or_not xs) [ inl rest ↦ inl (same, rest) | inr broken ↦ inr (λ h. broken h.1) ]
        | inr other ↦ inr (λ h. other h.0)
      ]

  one_row_more : (n : ℕ) → ((l : ℕ) → l < n → RowHolds i columns l) → RowHolds i columns n → (l : ℕ) → l < suc n → RowHolds i columns l
  one_row_more n kept row l h = elim (below_or_same l n h) [ inl below ↦ kept l below | inr same ↦ subst (RowHolds i columns) (sym same) row ]

  -- A trace keeps all rows, or some row is the first broken one.
  pub first_broken : (n : ℕ) → n ≤ height i → ((l : ℕ) → l < n → RowHolds i columns l) ⊎ ((k : ℕ) × IsFirstBrokenRow i columns k)
  first_broken zero within = inl (λ l h. absurd (omega (arith, h)))
  first_broken (suc n) within =
      elim (first_broken n (omega (arith, within))) [
        | inl kept ↦ elim (all_or_not (constraints_at i columns (point i n))) [
          | inl row ↦ inl (λ l h. one_row_more n kept row l h)
          | inr broken ↦ inr (n, record { in_trace = omega (arith, within); broken = broken; earlier = kept })
        ]
        | inr obtained ↦ inr obtained
      ]

  pub first_broken_row : (Satisfies i columns → ⊥) → (k : ℕ) × IsFirstBrokenRow i columns k
  first_broken_row breaks = elim (first_broken (height i) (omega arith)) [ inl kept ↦ absurd (breaks kept) | inr obtained ↦ obtained ]

  one_first_row : (k l : ℕ) → IsFirstBrokenRow i columns k → IsFirstBrokenRow i columns l → k ≡ l
  one_first_row k l first other = elim (three_ways k l) [
    | inl below ↦ absurd (first.broken (other.earlier k below))
    | inr more ↦ elim more [ inl above ↦ absurd (other.broken (first.earlier l above)) | inr same ↦ same ]
  ]

  module _ (k : ℕ) (first : IsFirstBrokenRow i columns k) where
    pub zero_in_first_row : (a : E) → IsBadAlpha i columns a → folded_at i columns a (point i k) ≡ i.ring.zero
    zero_in_first_row a bad = ap (λ r. folded_at i columns a (point i r)) (one_first_row k bad.row first bad.first) ∙ bad.folds_to_zero

    pub bad_or_not : (a : E) → IsBadAlpha i columns a ⊎ (IsBadAlpha i columns a → ⊥)
    bad_or_not a = elim (laws.decides (folded_at i columns a (point i k)) i.ring.zero) [
      | inl gone ↦ inl (record { row = k; first = first; folds_to_zero = gone })
      | inr other ↦ inr (λ bad. other (zero_in_first_row a bad))
    ]

    -- The bad alphas are few.
    pub few_bad_alphas : HoldsOfAtMost (alpha_bound i.constraints) (IsBadAlpha i columns)
    few_bad_alphas =
        fewer_hold {Q = λ a. folded_at i columns a (point i k) ≡ i.ring.zero} (alpha_bound i.constraints) zero_in_first_row
        (subst (λ n. HoldsOfAtMost n (λ a. folded_at i columns a (point i k) ≡ i.ring.zero)) (as_many _ i.constraints) (few_alphas_fold_to_zero laws (constraints_at i columns (point i k)) first.broken))

    module _ (reaches : power i.ring (i.embed i.generator) (height i) ≡ i.ring.one) (shifts : List E) (chunks : List (List (List E))) (a : E) (good : IsBadAlpha i columns a → ⊥) where
      -- Z_H is zero at each point of H, so an alpha that isn't bad leaves a polynomial that isn't zero.
      equation_not_zero : IsZeroPolynomial i.ring (equation_polynomial i columns shifts chunks a) → ⊥
      equation_not_zero zeros =
          let x = point i k in
          let quotient = quotient_at i shifts chunks x in
          let same : folded_at i columns a x ≡ i.ring.mul (subgroup_vanishing i.ring (height i) x) quotient =
          same_if_no_difference laws.of_ring (folded_at i columns a x) (i.ring.mul (subgroup_vanishing i.ring (height i) x) quotient)
          (sym (value_of_equation i laws.of_ring columns shifts chunks a x) ∙ value_of_zeros laws.of_ring (equation_polynomial i columns shifts chunks a) x zeros) in
          let gone : folded_at i columns a x ≡ i.ring.zero =
          same ∙ ap (λ w. i.ring.mul w quotient) (vanishes_on_subgroup laws.of_ring (i.embed i.generator) (height i) k reaches) ∙ zero_mul laws.of_ring quotient in
          good (record { row = k; first = first; folds_to_zero = gone })

      few_roots_of_equation : (m : ℕ) → ColumnsFit m columns → ChunksFit m chunks → HoldsOfAtMost (zeta_bound m (height i) (length shifts) i.constraints) (IsRoot i.ring (equation_polynomial i columns shifts chunks a))
      few_roots_of_equation m fit chunks_fit =
          let bound = zeta_bound m (height i) (length shifts) i.constraints in
          few_roots laws bound (equation_polynomial i columns shifts chunks a)
          (plus_one bound (length (equation_polynomial i columns shifts chunks a)) (degree_of_equation i m columns fit shifts chunks a chunks_fit)) equation_not_zero

      -- The bad zetas are few.
      pub few_bad_zetas : (m : ℕ) → ColumnsFit m columns → ChunksFit m chunks → HoldsOfAtMost (zeta_bound m (height i) (length shifts) i.constraints) (IsBadZeta i columns shifts chunks a)
      few_bad_zetas m fit chunks_fit =
          fewer_hold {Q = IsRoot i.ring (equation_polynomial i columns shifts chunks a)} (zeta_bound m (height i) (length shifts) i.constraints) (λ z bad. bad.root) (few_roots_of_equation m fit chunks_fit)

      pub few_balanced : (m : ℕ) → ColumnsFit m columns → ChunksFit m chunks → HoldsOfAtMost (zeta_bound m (height i) (length shifts) i.constraints) (IsBalanced i columns shifts chunks a)
      few_balanced m fit chunks_fit =
          fewer_hold {Q = IsRoot i.ring (equation_polynomial i columns shifts chunks a)} (zeta_bound m (height i) (length shifts) i.constraints)
          (λ z h. value_of_equation i laws.of_ring columns shifts chunks a z ∙ no_difference laws.of_ring _ _ h) (few_roots_of_equation m fit chunks_fit)

  -- Where the equation holds for a broken trace, alpha is bad, or zeta is bad for an alpha that isn't.
  pub alpha_or_zeta_is_bad : (Satisfies i columns → ⊥) → (shifts : List E) (chunks : List (List (List E))) (a z : E) → IsBalanced i columns shifts chunks a z
      → IsBadAlpha i columns a ⊎ IsBadZeta i columns shifts chunks a z
  alpha_or_zeta_is_bad breaks shifts chunks a z balanced =
      let obtained = first_broken_row breaks in
      elim (bad_or_not obtained.0 obtained.1 a) [
        | inl bad ↦ inl bad
        | inr good ↦ inr (record { good_alpha = good; root = value_of_equation i laws.of_ring columns shifts chunks a z ∙ no_difference laws.of_ring _ _ balanced })
      ]
