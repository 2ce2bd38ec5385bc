-- How many places are in a set, and lists of what stands there.
use Rattle.std.specs.Prelude.{◌≡◌, ◌≢◌, ◌⊎◌, ℕ, zero, suc, ◌+◌, ◌<◌, ◌≤◌, Bool, true, false, not, ◌&&◌, cond, eqb, List, [], ◌∷◌, length, map, refl}
use Rattle.std.specs.List.{AllByRecursion}
use Rattle.std.proofs.Common.{sym, ap, ◌∙◌, subst, inl, inr, arith}
use Rattle.std.proofs.lemmas.Bool.{cases_Bool, true≢false, and_from, and_parts, not_from_true, not_from_false, eq-eqb, ne_eqb}
use Rattle.stark_support.specs.Polynomial.{IsWithoutRepeats}
use Rattle.stark_support.specs.PointFacts.{all_both}
use Rattle.stark_fri_soundness.specs.Agreement.{ArePointsApart, count}

-- ---- places

pub later : (i n : ℕ) → i < n → i < suc n
later i n h = omega arith

pub last : (n : ℕ) → n < suc n
last n = omega arith

pub last_or_earlier : (i n : ℕ) → i < suc n → (i ≡ n) ⊎ (i < n)
last_or_earlier i n h = grind arith

pub count_none : (places : ℕ → Bool) → count 0 places ≡ 0
unfolding count
count_none places = refl

-- One place more is counted where it is in the set.
pub count_in : (n : ℕ) (places : ℕ → Bool) → places n ≡ true → count (suc n) places ≡ suc (count n places)
unfolding count
count_in n places is = ap (λ b. cond b 1 0 + count n places) is ∙ omega arith

pub count_out : (n : ℕ) (places : ℕ → Bool) → places n ≡ false → count (suc n) places ≡ count n places
unfolding count
count_out n places is = ap (λ b. cond b 1 0 + count n places) is ∙ omega arith

abbrev IsCounted : ℕ → (ℕ → Bool) → Type 0
IsCounted n places = ((places n ≡ true) × (count (suc n) places ≡ suc (count n places))) ⊎ ((places n ≡ false) × (count (suc n) places ≡ count n places))

pub counted : (n : ℕ) (places : ℕ → Bool) → IsCounted n places
counted n places = elim (cases_Bool (places n)) [ inl is ↦ inl (is, count_in n places is) | inr is ↦ inr (is, count_out n places is) ]

-- A larger set has no fewer places.
pub count_more : (n : ℕ) (few many : ℕ → Bool) → ((i : ℕ) → i < n → few i ≡ true → many i ≡ true) → count n few ≤ count n many
count_more zero few many within = let none = count_none few in omega arith
count_more (suc n) few many within =
    let rest : count n few ≤ count n many = count_more n few many (λ i below. within i (later i n below)) in
    elim (counted n few) [
      | inl is ↦ let b = count_in n many (within n (last n) is.0) in omega arith
      | inr is ↦ elim (counted n many) [ inl there ↦ omega arith | inr there ↦ omega arith ]
    ]

and_false : (b : Bool) → (b && false) ≡ false
and_false b = elim (cases_Bool b) [ inl is ↦ ap (λ c. c && false) is | inr is ↦ ap (λ c. c && false) is ]

-- The places that two sets have in common,
abbrev pub common : (ℕ → Bool) → (ℕ → Bool) → ℕ → Bool
common first second i = first i && second i

-- and those outside a set.
abbrev pub outside : (ℕ → Bool) → ℕ → Bool
outside places i = not (places i)

-- What two sets have in common lacks no more places than both lack.
pub count_common : (n : ℕ) (first second : ℕ → Bool) → count n first + count n second ≤ n + count n (common first second)
count_common zero first second = let a = count_none first in let b = count_none second in omega arith
count_common (suc n) first second =
    let rest = count_common n first second in
    elim (counted n first) [
      | inl is ↦ elim (counted n second) [
        | inl there ↦ let c = count_in n (common first second) (and_from (first n) (second n) is.0 there.0) in omega arith
        | inr there ↦ elim (counted n (common first second)) [ inl both ↦ omega arith | inr both ↦ omega arith ]
      ]
      | inr is ↦ elim (counted n second) [
        | inl there ↦ elim (counted n (common first second)) [ inl both ↦ omega arith | inr both ↦ omega arith ]
        | inr there ↦ elim (counted n (common first second)) [ inl both ↦ omega arith | inr both ↦ omega arith ]
      ]
    ]

pub count_outside : (n : ℕ) (places : ℕ → Bool) → count n places + count n (outside places) ≡ n
count_outside zero places = let a = count_none places in let b = count_none (outside places) in omega arith
count_outside (suc n) places =
    let rest = count_outside n places in
    elim (counted n places) [
      | inl is ↦ let b = count_out n (outside places) (not_from_true (places n) is.0) in omega arith
      | inr is ↦ let b = count_in n (outside places) (not_from_false (places n) is.0) in omega arith
    ]

-- A set without one place.
abbrev pub without : ℕ → (ℕ → Bool) → ℕ → Bool
without i places k = places k && not (eqb k i)

pub still_in : (i k : ℕ) (places : ℕ → Bool) → places k ≡ true → k ≢ i → without i places k ≡ true
still_in i k places is other = and_from (places k) (not (eqb k i)) is (not_from_false (eqb k i) (ne_eqb k i other))

no_longer_in : (i k : ℕ) (places : ℕ → Bool) → k ≡ i → without i places k ≡ false
no_longer_in i k places same = ap (λ b. places k && not b) (eq-eqb k i same) ∙ elim (cases_Bool (places k)) [ inl is ↦ ap (λ b. b && false) is | inr is ↦ ap (λ b. b && false) is ]

was_in : (i k : ℕ) (places : ℕ → Bool) → without i places k ≡ true → places k ≡ true
was_in i k places is = (and_parts (places k) (not (eqb k i)) is).0

pub count_without : (n i : ℕ) (places : ℕ → Bool) → i < n → places i ≡ true → suc (count n (without i places)) ≤ count n places
count_without zero i places below is = absurd (omega arith)
count_without (suc n) i places below is = elim (last_or_earlier i n below) [
  | inl same ↦
      let a = count_out n (without i places) (no_longer_in i n places (sym same)) in
      let b = count_in n places (subst (λ k. places k ≡ true) same is) in
      let c = count_more n (without i places) places (λ k _. was_in i k places) in
      omega arith
  | inr earlier ↦
      let rest = count_without n i places earlier is in
      elim (counted n (without i places)) [
        | inl there ↦ let b = count_in n places (was_in i n places there.0) in omega arith
        | inr there ↦ elim (counted n places) [ inl here ↦ omega arith | inr here ↦ omega arith ]
      ]
]

-- All places.
abbrev pub every_place : ℕ → Bool
every_place i = true

pub count_all : (n : ℕ) → count n every_place ≡ n
count_all zero = count_none every_place
count_all (suc n) = count_in n every_place refl ∙ ap suc (count_all n)

-- A set's places in another set, and those outside it.
pub count_parts : (n : ℕ) (places other : ℕ → Bool) → count n (common places other) + count n (common places (outside other)) ≡ count n places
count_parts zero places other = let a = count_none (common places other) in let b = count_none (common places (outside other)) in let c = count_none places in omega arith
count_parts (suc n) places other =
    let rest = count_parts n places other in
    elim (counted n places) [
      | inl is ↦ elim (cases_Bool (other n)) [
        | inl there ↦
            let a = count_in n (common places other) (and_from (places n) (other n) is.0 there) in
            let b = count_out n (common places (outside other)) (ap (λ c. places n && c) (not_from_true (other n) there) ∙ and_false (places n)) in
            omega arith
        | inr out ↦
            let a = count_out n (common places other) (ap (λ c. places n && c) out ∙ and_false (places n)) in
            let b = count_in n (common places (outside other)) (and_from (places n) (outside other n) is.0 (not_from_false (other n) out)) in
            omega arith
      ]
      | inr is ↦
          let a = count_out n (common places other) (ap (λ c. c && other n) is.0) in
          let b = count_out n (common places (outside other)) (ap (λ c. c && outside other n) is.0) in
          omega arith
    ]

-- ---- as many elements as places

-- An element has a mark at a place of a set.
pub record IsMarked {A : Type 0} (Marks : A → ℕ → Type 0) (n : ℕ) (places : ℕ → Bool) (a : A) : Type 0 where
  pub place : ℕ
  pub below : place < n
  pub inside : places place ≡ true
  pub mark : Marks a place

module _ {A : Type 0} (Marks : A → ℕ → Type 0) (alone : (a b : A) (i : ℕ) → Marks a i → Marks b i → a ≢ b → ⊥) where
  -- Where no place is marked by two elements, there are no more elements than places.
  pub elements_are_few : (n : ℕ) (xs : List A) (places : ℕ → Bool) → IsWithoutRepeats xs → AllByRecursion (IsMarked Marks n places) xs → length xs ≤ count n places
  elements_are_few n [] places distinct marked = omega arith
  elements_are_few n (x ∷ xs) places distinct marked =
      let here = marked.0 in
      let others : AllByRecursion (IsMarked Marks n (without here.place places)) xs
      = all_both (λ y. x ≢ y) (IsMarked Marks n places) (IsMarked Marks n (without here.place places))
      (λ y apart it. record {
        place = it.place;
        below = it.below;
        inside = still_in here.place it.place places it.inside (λ same. alone x y it.place (subst (Marks x) (sym same) here.mark) it.mark apart);
        mark = it.mark;
      }) xs distinct.0 marked.1 in
      let rest = elements_are_few n xs (without here.place places) distinct.1 others in
      let less = count_without n here.place places here.below here.inside in
      omega (arith, rest, less)

-- ---- lists of what stands at the places

-- The values at those of the first n places that are in the set.
unfoldable pub selected : {A : Type 0} → (ℕ → A) → ℕ → (ℕ → Bool) → List A
selected f zero places = []
selected f (suc n) places = cond (places n) (f n ∷ selected f n places) (selected f n places)

module _ {A : Type 0} (f : ℕ → A) where
  selected_none : (places : ℕ → Bool) → selected f 0 places ≡ []
  unfolding selected
  selected_none places = refl

  pub selected_in : (n : ℕ) (places : ℕ → Bool) → places n ≡ true → selected f (suc n) places ≡ f n ∷ selected f n places
  unfolding selected
  selected_in n places is = ap (λ b. cond b (f n ∷ selected f n places) (selected f n places)) is

  pub selected_out : (n : ℕ) (places : ℕ → Bool) → places n ≡ false → selected f (suc n) places ≡ selected f n places
  unfolding selected
  selected_out n places is = ap (λ b. cond b (f n ∷ selected f n places) (selected f n places)) is

  pub selected_length : (n : ℕ) (places : ℕ → Bool) → length (selected f n places) ≡ count n places
  selected_length zero places = ap length (selected_none places) ∙ sym (count_none places)
  selected_length (suc n) places = elim (counted n places) [
    | inl is ↦ ap length (selected_in n places is.0) ∙ ap suc (selected_length n places) ∙ sym is.1
    | inr is ↦ ap length (selected_out n places is.0) ∙ selected_length n places ∙ sym is.1
  ]

  -- What holds at each place of the set holds of the list's members.
  pub all_selected : (P : A → Type 0) (n : ℕ) (places : ℕ → Bool) → ((i : ℕ) → i < n → places i ≡ true → P (f i)) → AllByRecursion P (selected f n places)
  all_selected P zero places h = subst (AllByRecursion P) (sym (selected_none places)) tt
  all_selected P (suc n) places h =
      let rest = all_selected P n places (λ i below. h i (later i n below)) in
      elim (cases_Bool (places n)) [
        | inl is ↦ subst (AllByRecursion P) (sym (selected_in n places is)) (h n (last n) is, rest)
        | inr is ↦ subst (AllByRecursion P) (sym (selected_out n places is)) rest
      ]

  pub selected_apart : (n : ℕ) (places : ℕ → Bool) → ArePointsApart n f → IsWithoutRepeats (selected f n places)
  selected_apart zero places apart = subst IsWithoutRepeats (sym (selected_none places)) tt
  selected_apart (suc n) places apart =
      let rest = selected_apart n places (λ i j less below. apart i j less (later j n below)) in
      elim (cases_Bool (places n)) [
        | inl is ↦ subst IsWithoutRepeats (sym (selected_in n places is)) (all_selected (λ y. f n ≢ y) n places (λ i below _ same. apart i n below (last n) (sym same)), rest)
        | inr is ↦ subst IsWithoutRepeats (sym (selected_out n places is)) rest
      ]

-- Two lists of what stands at the places are equal only where it is equal at each place.
pub selected_same : {A B : Type 0} (f : ℕ → A) (g : ℕ → B) (h : A → B) (n : ℕ) (places : ℕ → Bool) → map h (selected f n places) ≡ selected g n places
    → (i : ℕ) → i < n → places i ≡ true → h (f i) ≡ g i
selected_same f g h zero places e i below is = absurd (omega arith)
selected_same f g h (suc n) places e i below is = elim (cases_Bool (places n)) [
  | inl here ↦
      let both : (h (f n) ∷ map h (selected f n places)) ≡ (g n ∷ selected g n places) = sym (ap (map h) (selected_in f n places here)) ∙ e ∙ selected_in g n places here in
      let heads : h (f n) ≡ g n = cc in
      let tails : map h (selected f n places) ≡ selected g n places = cc in
      elim (last_or_earlier i n below) [
        | inl same ↦ ap (λ k. h (f k)) same ∙ heads ∙ ap g (sym same)
        | inr earlier ↦ selected_same f g h n places tails i earlier is
      ]
  | inr out ↦
      let rest : map h (selected f n places) ≡ selected g n places = sym (ap (map h) (selected_out f n places out)) ∙ e ∙ selected_out g n places out in
      elim (last_or_earlier i n below) [
        | inl same ↦ absurd (true≢false (sym (subst (λ k. places k ≡ true) same is) ∙ out))
        | inr earlier ↦ selected_same f g h n places rest i earlier is
      ]
]
