-- The words of one lane.
use Rattle.std.proofs.Common.{◌≡◌, ◌∙◌, ◌+◌, ◌-◌, ◌<◌, ℕ, zero, suc, List, [], ◌∷◌, arith, inl, inr, length, refl, subst, sym, slice_index, slice_index_or, slice_set}
use Rattle.std.proofs.Math.ListN.{get_or-map}
use Rattle.std.proofs.lemmas.List.{get_or-set_other, get_or-set_same, length-map, map-set}
use Rattle.std.proofs.lemmas.Bool.{cases_lt}
use Rattle.stark_sha256.specs.Lanes.{lane}

pub word_in_lane : (j : ℕ) (words : List (List ℕ)) (i : ℕ)
    → slice_index (lane j words) i ≡ slice_index (slice_index_or words i []) j
word_in_lane j words i = get_or-map (λ word. slice_index word j) words i []

pub set_in_lane : (j : ℕ) (words : List (List ℕ)) (i : ℕ) (word : List ℕ)
    → lane j (slice_set words i word) ≡ slice_set (lane j words) i (slice_index word j)
set_in_lane j words i word = map-set (λ word. slice_index word j) words i word

-- eight words, each set at its place
pub set_eight : (xs : List ℕ) (a b c d e f g h : ℕ) → length xs ≡ 8
    → slice_set (slice_set (slice_set (slice_set (slice_set (slice_set (slice_set (slice_set xs 0 a) 1 b) 2 c) 3 d) 4 e) 5 f) 6 g) 7 h
    ≡ a ∷ b ∷ c ∷ d ∷ e ∷ f ∷ g ∷ h ∷ []
set_eight (_ ∷ _ ∷ _ ∷ _ ∷ _ ∷ _ ∷ _ ∷ _ ∷ []) a b c d e f g h is = refl
set_eight (_ ∷ _ ∷ _ ∷ _ ∷ _ ∷ _ ∷ _ ∷ _ ∷ _ ∷ _) a b c d e f g h is = absurd (omega arith)
set_eight (_ ∷ _ ∷ _ ∷ _ ∷ _ ∷ _ ∷ _ ∷ []) a b c d e f g h is = absurd (omega arith)
set_eight (_ ∷ _ ∷ _ ∷ _ ∷ _ ∷ _ ∷ []) a b c d e f g h is = absurd (omega arith)
set_eight (_ ∷ _ ∷ _ ∷ _ ∷ _ ∷ []) a b c d e f g h is = absurd (omega arith)
set_eight (_ ∷ _ ∷ _ ∷ _ ∷ []) a b c d e f g h is = absurd (omega arith)
set_eight (_ ∷ _ ∷ _ ∷ []) a b c d e f g h is = absurd (omega arith)
set_eight (_ ∷ _ ∷ []) a b c d e f g h is = absurd (omega arith)
set_eight (_ ∷ []) a b c d e f g h is = absurd (omega arith)
set_eight [] a b c d e f g h is = absurd (omega arith)

-- the same of the words of a lane
pub set_eight_in_lane : (j : ℕ) (words : List (List ℕ)) (a b c d e f g h : List ℕ) → length words ≡ 8
    → lane j (slice_set (slice_set (slice_set (slice_set (slice_set (slice_set (slice_set (slice_set words 0 a) 1 b) 2 c) 3 d) 4 e) 5 f) 6 g) 7 h)
    ≡ slice_index a j ∷ slice_index b j ∷ slice_index c j ∷ slice_index d j ∷ slice_index e j ∷ slice_index f j ∷ slice_index g j ∷ slice_index h j ∷ []
set_eight_in_lane j words a b c d e f g h is =
    simp set_in_lane (set_eight (lane j words) _ _ _ _ _ _ _ _ (length-map words (λ word. slice_index word j) ∙ is))

-- What holds in each of eight lanes.
pub in_each_of_eight : (P : ℕ → Type 0) → P 0 → P 1 → P 2 → P 3 → P 4 → P 5 → P 6 → P 7 → (i : ℕ) → i < 8 → P i
in_each_of_eight P a b c d e f g h zero low = a
in_each_of_eight P a b c d e f g h (suc zero) low = b
in_each_of_eight P a b c d e f g h (suc (suc zero)) low = c
in_each_of_eight P a b c d e f g h (suc (suc (suc zero))) low = d
in_each_of_eight P a b c d e f g h (suc (suc (suc (suc zero)))) low = e
in_each_of_eight P a b c d e f g h (suc (suc (suc (suc (suc zero))))) low = f
in_each_of_eight P a b c d e f g h (suc (suc (suc (suc (suc (suc zero)))))) low = g
in_each_of_eight P a b c d e f g h (suc (suc (suc (suc (suc (suc (suc zero))))))) low = h
in_each_of_eight P a b c d e f g h (suc (suc (suc (suc (suc (suc (suc (suc i)))))))) low = absurd (omega arith)

-- What holds at each place before one, and at that one, holds at each before the next.
pub one_further : (P : ℕ → Type 0) (at : ℕ) → ((i : ℕ) → i < at → P i) → P at → (i : ℕ) → i < at + 1 → P i
one_further P at before new i below = elim (cases_lt i at) [
  | inl low ↦ before i low
  | inr high ↦
      let same : at ≡ i = omega arith in
      subst P same new
]

-- The same of a list's entries, of which the new one is set at its place.
pub one_more : {A : Type 0} (P : ℕ → A → Type 0) (xs : List A) (at : ℕ) (x d : A) → at < length xs
    → ((i : ℕ) → i < at → P i (slice_index_or xs i d)) → P at x
    → (i : ℕ) → i < at + 1 → P i (slice_index_or (slice_set xs at x) i d)
one_more P xs at x d within before new =
    one_further (λ i. P i (slice_index_or (slice_set xs at x) i d)) at
    (λ i low. subst (P i) (sym (get_or-set_other xs at i x d (omega arith))) (before i low))
    (subst (P at) (sym (get_or-set_same xs at x d within)) new)

-- What holds in four lanes, and in the four after them, holds in eight.
pub in_both_halves : (P : ℕ → Type 0) → ((i : ℕ) → i < 4 → P i) → ((i : ℕ) → i < 4 → P (4 + i)) → (i : ℕ) → i < 8 → P i
in_both_halves P low high i below = elim (cases_lt i 4) [
  | inl first ↦ low i first
  | inr second ↦
      let at : 4 + (i - 4) ≡ i = omega (arith, second) in
      let small : i - 4 < 4 = omega (arith, below) in
      subst P at (high (i - 4) small)
]
