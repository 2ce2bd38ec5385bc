-- How many tuples of places lie in a set.
use Rattle.std.specs.Prelude.{◌≡◌, ◌≢◌, ◌⊎◌, ℕ, zero, suc, ◌+◌, ◌*◌, ◌/◌, ◌^◌, ◌%◌, ◌<◌, ◌≤◌, Bool, true, List, [], ◌∷◌, length, refl}
use Rattle.std.specs.List.{AllByRecursion}
use Rattle.std.proofs.Common.{sym, ap, ◌∙◌, subst, inl, inr, arith, pow-suc}
use Rattle.std.proofs.Math.Arith.{digits_div, digits_mod}
use Rattle.std.proofs.Math.Nat.{mul-le-mul_left, pow-zero}
use Rattle.std.proofs.lemmas.Bool.{cases_order}
use Rattle.stark_support.specs.Polynomial.{HoldsOfAtMost}
use Rattle.stark_support.specs.PointFacts.{all_both}
use Rattle.stark_fri_soundness.specs.Agreement.{count}
use Rattle.stark_fri_soundness.specs.Counting.{IsMarked, count_in, count_outside, counted, elements_are_few}
use Rattle.stark_fri_soundness.specs.Sound.{ArePlacesOf, FewQueriesPass}

earlier_or_same : (i n : ℕ) → i ≤ suc n → (i ≡ suc n) ⊎ (i ≤ n)
earlier_or_same i n h = grind arith

-- There are no fewer places below a larger number.
count_grows : (i n : ℕ) (places : ℕ → Bool) → i ≤ n → count i places ≤ count n places
count_grows i zero places h = let none : i ≡ 0 = omega arith in subst (λ k. count k places ≤ count 0 places) (sym none) (omega arith)
count_grows i (suc n) places h = elim (earlier_or_same i n h) [
  | inl same ↦ subst (λ k. count k places ≤ count (suc n) places) (sym same) (omega arith)
  | inr earlier ↦ let rest = count_grows i n places earlier in elim (counted n places) [ inl is ↦ omega arith | inr is ↦ omega arith ]
]

-- The number of a place in a set: how many come before it.
rank_below : (i n : ℕ) (places : ℕ → Bool) → i < n → places i ≡ true → count i places < count n places
rank_below i n places below is = let up_to = count_grows (suc i) n places (omega arith) in let own = count_in i places is in omega arith

rank_injective : (i j : ℕ) (places : ℕ → Bool) → places i ≡ true → places j ≡ true → count i places ≡ count j places → i ≡ j
rank_injective i j places is_i is_j same = elim (cases_order i j) [
  | inl equal ↦ equal
  | inr other ↦ elim other [
    | inl less ↦ let fewer = rank_below i j places less is_i in absurd (omega arith)
    | inr more ↦ let fewer = rank_below j i places more is_j in absurd (omega arith)
  ]
]

-- The number of a tuple of places, by the numbers of its places as digits.
unfoldable code : ℕ → (ℕ → Bool) → List ℕ → ℕ
code n places [] = 0
code n places (i ∷ drawn) = code n places drawn * count n places + count i places

digits_below : (c r p m : ℕ) → r < p → suc c ≤ m → c * p + r < p * m
digits_below c r p m small fits = let whole : p * suc c ≤ p * m = mul-le-mul_left p fits in let one_more : p * suc c ≡ c * p + p = omega arith in omega arith

next_power : (p q : ℕ) → p * p ^ q ≡ p ^ suc q
next_power p q = omega (arith, pow-suc p q)

module _ (n : ℕ) (places : ℕ → Bool) where
  abbrev Within : ℕ → Type 0
  Within i = (i < n) × (places i ≡ true)

  code_below : (drawn : List ℕ) → AllByRecursion Within drawn → code n places drawn < count n places ^ length drawn
  unfolding code
  code_below [] within = omega (arith, pow-zero (count n places))
  code_below (i ∷ drawn) within =
      subst (λ m. code n places drawn * count n places + count i places < m) (next_power (count n places) (length drawn))
      (digits_below (code n places drawn) (count i places) (count n places) (count n places ^ length drawn) (rank_below i n places within.0.0 within.0.1) (code_below drawn within.1))

  code_injective : (drawn others : List ℕ) → length drawn ≡ length others → AllByRecursion Within drawn → AllByRecursion Within others → code n places drawn ≡ code n places others → drawn ≡ others
  unfolding code
  code_injective [] [] size within within_others same = refl
  code_injective [] (j ∷ others) size within within_others same = absurd (omega arith)
  code_injective (i ∷ drawn) [] size within within_others same = absurd (omega arith)
  code_injective (i ∷ drawn) (j ∷ others) size within within_others same =
      let p = count n places in
      let low_i = rank_below i n places within.0.0 within.0.1 in
      let low_j = rank_below j n places within_others.0.0 within_others.0.1 in
      let ranks : count i places ≡ count j places = sym (digits_mod (code n places drawn) low_i) ∙ ap (λ t. t % p) same ∙ digits_mod (code n places others) low_j in
      let rest : code n places drawn ≡ code n places others = sym (digits_div (code n places drawn) low_i) ∙ ap (λ t. t / p) same ∙ digits_div (code n places others) low_j in
      let heads : i ≡ j = rank_injective i j places within.0.1 within_others.0.1 ranks in
      let tails : drawn ≡ others = code_injective drawn others (omega arith) within.1 within_others.1 rest in
      ap (λ k. k ∷ drawn) heads ∙ ap (λ ks. j ∷ ks) tails

  module _ (number : ℕ) where
    -- A tuple's number is its mark.
    abbrev Marks : List ℕ → ℕ → Type 0
    Marks drawn k = ArePlacesOf n places number drawn × (code n places drawn ≡ k)

    marks_alone : (a b : List ℕ) (k : ℕ) → Marks a k → Marks b k → a ≢ b → ⊥
    marks_alone a b k by_a by_b different = different (code_injective a b (by_a.0.0 ∙ sym by_b.0.0) by_a.0.1 by_b.0.1 (by_a.1 ∙ sym by_b.1))

    abbrev everywhere : ℕ → Bool
    everywhere i = true

    marked : (drawn : List ℕ) → ArePlacesOf n places number drawn → IsMarked Marks (count n places ^ number) everywhere drawn
    marked drawn are = record {
      place = code n places drawn;
      below = subst (λ q. code n places drawn < count n places ^ q) are.0 (code_below drawn are.1);
      inside = refl;
      mark = (are, refl);
    }

    tuples_are_few : HoldsOfAtMost (count n places ^ number) (ArePlacesOf n places number)
    tuples_are_few tuples distinct are =
        let few = elements_are_few Marks marks_alone (count n places ^ number) tuples everywhere distinct
        (all_both (ArePlacesOf n places number) (ArePlacesOf n places number) (IsMarked Marks (count n places ^ number) everywhere) (λ drawn is _. marked drawn is) tuples are are) in
        let split = count_outside (count n places ^ number) everywhere in
        omega arith

pub few_queries_pass : FewQueriesPass
few_queries_pass n places number = tuples_are_few n places number
