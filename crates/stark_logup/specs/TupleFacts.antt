-- Tuples compressed by powers of beta: few betas take two of them for one.
use Rattle.std.specs.Prelude.{◌≡◌, ◌≢◌, ℕ, zero, suc, ◌+◌, ◌-◌, ◌*◌, ◌≤◌, List, [], ◌∷◌, ◌++◌, map, length, refl}
use Rattle.std.proofs.Common.{sym, ap, ◌∙◌, subst, arith, inl, inr}
use Rattle.std.proofs.lemmas.List.{length-map, map-append}
use Rattle.stark_support.specs.Ring.{RingOps, FieldLaws, difference}
use Rattle.stark_support.specs.RingFacts.{zero_add, same_if_no_difference}
use Rattle.stark_support.specs.Polynomial.{value, polynomial_ring, IsZeroPolynomial, IsRoot, HoldsOfAtMost}
use Rattle.stark_support.specs.PolynomialFacts.{difference_length, value_of_difference, few_roots}
use Rattle.stark_logup.specs.Fractions.{Entry, Decides, share, total, weighted, joined}
use Rattle.stark_logup.specs.Lookups.{compressed, listed, Collides, HaveWidth, compressed_groups, CanPass, FalseLookupsFail, TrueLookupsPass}
use Rattle.stark_logup.specs.EntryFacts.{share_same, share_other, balanced_sum}
use Rattle.stark_logup.specs.Counts.{fewer_hold, more_allowed, none_hold, either_holds}
use Rattle.stark_logup.specs.FractionFacts.{IsApart, pole_or_apart}
use Rattle.stark_logup.specs.RunningSumFacts.{computed_columns, few_gammas}

-- ---- rows of compressed entries

module _ {A B : Type 0} (f : A → B) where
  pub joined_map : (gs : List (List A)) → joined (map (map f) gs) ≡ map f (joined gs)
  joined_map [] = refl
  joined_map (g ∷ gs) = ap (λ xs. map f g ++ xs) (joined_map gs) ∙ sym (map-append f g (joined gs))

  pub listed_map : (groups : ℕ → List (List A)) (n : ℕ) → listed (λ r. map (map f) (groups r)) n ≡ map f (listed groups n)
  listed_map groups zero = refl
  listed_map groups (suc n) =
      ap (λ xs. xs ++ joined (map (map f) (groups n))) (listed_map groups n) ∙ ap (λ xs. map f (listed groups n) ++ xs) (joined_map (groups n))
      ∙ sym (map-append f (listed groups n) (joined (groups n)))

pub weighted_compressed : {K : Type 0} (ring : RingOps K) (weight : K → K) (beta : K) (es : List (Entry (List K) K))
    → weighted ring weight (map (compressed ring beta) es) ≡ weighted ring (λ t. weight (value ring t beta)) es
weighted_compressed ring weight beta [] = refl
weighted_compressed ring weight beta (e ∷ es) = ap (ring.add (ring.mul e.multiplicity (weight (value ring e.key beta)))) (weighted_compressed ring weight beta es)

-- ---- collisions

less_one : (l m : ℕ) → l ≤ m → l ≤ m - 1 + 1
less_one l m h = omega arith

one_width_more : (n w : ℕ) → w + n * w ≤ suc n * w
one_width_more n w = omega arith

pred_suc : (n : ℕ) → suc n - 1 ≡ n
pred_suc n = omega arith

-- one entry fewer than there are
as_many_kept : (n w : ℕ) → n * w ≤ (suc n - 1) * w
as_many_kept n w = subst (λ m. n * w ≤ m * w) (sym (pred_suc n)) (omega arith)

one_kept_more : (n w : ℕ) → 1 ≤ n → w + (n - 1) * w ≤ (suc n - 1) * w
one_kept_more zero w h = absurd (omega arith)
one_kept_more (suc m) w h = subst (λ k. w + k * w ≤ (suc (suc m) - 1) * w) (sym (pred_suc m)) (subst (λ k. w + m * w ≤ k * w) (sym (pred_suc (suc m))) (one_width_more m w))

same_length : (m n w : ℕ) → m ≡ w → n ≡ w → m ≡ n
same_length m n w h k = omega arith

at_most : (m w : ℕ) → m ≡ w → m ≤ w
at_most m w h = omega arith

module _ {K : Type 0} {ring : RingOps K} {inverse : K → K} (laws : FieldLaws ring inverse) where
  same_tuple : (t u : List K) → length t ≡ length u → IsZeroPolynomial ring (difference (polynomial_ring ring) t u) → t ≡ u
  same_tuple [] [] size zeros = refl
  same_tuple [] (y ∷ u) size zeros = absurd (omega arith)
  same_tuple (x ∷ t) [] size zeros = absurd (omega arith)
  same_tuple (x ∷ t) (y ∷ u) size zeros =
      ap (λ z. z ∷ t) (same_if_no_difference laws.of_ring x y zeros.0) ∙ ap (λ s. y ∷ s) (same_tuple t u (omega arith) zeros.1)

  -- Two tuples of w elements are one element by at most w - 1 betas.
  pub few_betas : (width : ℕ) (t u : List K) → length t ≡ width → length u ≡ width → HoldsOfAtMost (width - 1) (λ beta. (t ≢ u) × (value ring t beta ≡ value ring u beta))
  few_betas width t u size_t size_u [] distinct holds = omega arith
  few_betas width t u size_t size_u (x ∷ xs) distinct holds =
      let less = difference (polynomial_ring ring) t u in
      let root : (beta : K) → (t ≢ u) × (value ring t beta ≡ value ring u beta) → IsRoot ring less beta
      = λ beta both. value_of_difference laws.of_ring t u beta ∙ ap (λ w. difference ring w (value ring u beta)) both.1 ∙ laws.of_ring.add_neg _ in
      fewer_hold {P = λ beta. (t ≢ u) × (value ring t beta ≡ value ring u beta)} {Q = IsRoot ring less} (width - 1) root
      (few_roots laws (width - 1) less (less_one (length less) width (difference_length ring t u width (at_most _ _ size_t) (at_most _ _ size_u)))
      (λ zeros. holds.0.0 (same_tuple t u (same_length _ _ width size_t size_u) zeros)))
      (x ∷ xs) distinct holds

  few_collisions : (width : ℕ) (t : List K) → length t ≡ width → (es : List (Entry (List K) K)) → HaveWidth width es → HoldsOfAtMost (length es * (width - 1)) (λ beta. Collides ring beta t es)
  few_collisions width t size [] have = none_hold (0 * (width - 1)) (λ beta none. none)
  few_collisions width t size (e ∷ es) have =
      more_allowed ((width - 1) + length es * (width - 1)) (suc (length es) * (width - 1)) (one_width_more (length es) (width - 1))
      (either_holds (width - 1) (length es * (width - 1)) (few_betas width t e.key size have.0) (few_collisions width t size es have.1))

  module _ (same : Decides (List K)) where
    others_unbalanced : (t : List K) (e : Entry (List K) K) (es : List (Entry (List K) K)) → t ≢ e.key → total ring same t (e ∷ es) ≢ ring.zero → total ring same t es ≢ ring.zero
    others_unbalanced t e es other unbalanced none =
        unbalanced (ap (λ w. ring.add w (total ring same t es)) (share_other ring same t e other) ∙ zero_add laws.of_ring _ ∙ none)

    some_entry : (t : List K) (es : List (Entry (List K) K)) → total ring same t es ≢ ring.zero → 1 ≤ length es
    some_entry t [] unbalanced = absurd (unbalanced refl)
    some_entry t (e ∷ es) unbalanced = omega arith

    width_of_unbalanced : (width : ℕ) (t : List K) (es : List (Entry (List K) K)) → total ring same t es ≢ ring.zero → HaveWidth width es → length t ≡ width
    width_of_unbalanced width t [] unbalanced have = absurd (unbalanced refl)
    width_of_unbalanced width t (e ∷ es) unbalanced have = elim (same t e.key) [
      | inl here ↦ ap length here ∙ have.0
      | inr other ↦ width_of_unbalanced width t es (others_unbalanced t e es other unbalanced) have.1
    ]

    -- A tuple that isn't balanced is hidden by few betas: it is one of the tuples itself.
    pub few_bad_betas : (width : ℕ) (t : List K) (es : List (Entry (List K) K)) → total ring same t es ≢ ring.zero → HaveWidth width es
        → HoldsOfAtMost ((length es - 1) * (width - 1)) (λ beta. Collides ring beta t es)
    few_bad_betas width t [] unbalanced have = absurd (unbalanced refl)
    few_bad_betas width t (e ∷ es) unbalanced have = elim (same t e.key) [
      | inl here ↦
          let among_rest : (beta : K) → Collides ring beta t (e ∷ es) → Collides ring beta t es = λ beta. elim [ inl both ↦ absurd (both.0 here) | inr rest ↦ rest ] in
          more_allowed (length es * (width - 1)) ((suc (length es) - 1) * (width - 1)) (as_many_kept (length es) (width - 1))
          (fewer_hold (length es * (width - 1)) among_rest (few_collisions width t (ap length here ∙ have.0) es have.1))
      | inr other ↦
          let rest = others_unbalanced t e es other unbalanced in
          more_allowed ((width - 1) + (length es - 1) * (width - 1)) ((suc (length es) - 1) * (width - 1)) (one_kept_more (length es) (width - 1) (some_entry t es rest))
          (either_holds (width - 1) ((length es - 1) * (width - 1)) (few_betas width t e.key (width_of_unbalanced width t es rest have.1) have.0) (few_bad_betas width t es rest have.1))
    ]

    -- By any other beta the element is there as often as the tuple.
    pub compressed_total : (beta : K) (t : List K) (es : List (Entry (List K) K)) → (Collides ring beta t es → ⊥)
        → total ring laws.decides (value ring t beta) (map (compressed ring beta) es) ≡ total ring same t es
    compressed_total beta t [] clear = refl
    compressed_total beta t (e ∷ es) clear =
        let first : share ring laws.decides (value ring t beta) (compressed ring beta e) ≡ share ring same t e
        = elim (same t e.key) [
          | inl here ↦ share_same ring laws.decides (value ring t beta) (compressed ring beta e) (ap (λ u. value ring u beta) here) ∙ sym (share_same ring same t e here)
          | inr other ↦ share_other ring laws.decides (value ring t beta) (compressed ring beta e) (λ h. clear (inl (other, h))) ∙ sym (share_other ring same t e other)
        ] in
        ap (ring.add (share ring laws.decides (value ring t beta) (compressed ring beta e))) (compressed_total beta t es (λ rest. clear (inr rest)))
        ∙ ap (λ w. ring.add w (total ring same t es)) first

  -- ---- both draws

  pub false_lookups_fail : FalseLookupsFail ring
  false_lookups_fail groups rows width have = record {
    betas = λ same t unbalanced. few_bad_betas same width t (listed groups rows) unbalanced have;
    gammas = λ same t unbalanced beta good.
        let es = listed groups rows in
        let whole : listed (compressed_groups ring groups rows beta) rows ≡ map (compressed ring beta) es = listed_map (compressed ring beta) groups rows in
        let seen : total ring laws.decides (value ring t beta) (listed (compressed_groups ring groups rows beta) rows) ≢ ring.zero
        = λ none. unbalanced (sym (compressed_total same beta t es good) ∙ ap (total ring laws.decides (value ring t beta)) (sym whole) ∙ none) in
        subst (λ n. HoldsOfAtMost (2 * n - 1) (CanPass ring groups rows beta)) (ap length whole ∙ length-map es (compressed ring beta))
        (few_gammas laws (compressed_groups ring groups rows beta) rows (value ring t beta) seen);
  }

  pub true_lookups_pass : TrueLookupsPass ring
  true_lookups_pass groups rows same balanced beta gamma no_pole =
      let es = listed groups rows in
      let weight = λ (a : K). inverse (difference ring gamma a) in
      let whole : listed (compressed_groups ring groups rows beta) rows ≡ map (compressed ring beta) es = listed_map (compressed ring beta) groups rows in
      let apart : IsApart gamma (map (compressed ring beta) es)
      = elim (pole_or_apart laws.decides gamma (map (compressed ring beta) es)) [ inl pole ↦ absurd (no_pole pole) | inr apart ↦ apart ] in
      computed_columns laws (compressed_groups ring groups rows beta) gamma rows (subst (IsApart gamma) (sym whole) apart)
      (ap (weighted ring weight) whole ∙ weighted_compressed ring weight beta es ∙ balanced_sum laws.of_ring same (λ t. weight (value ring t beta)) es balanced)
