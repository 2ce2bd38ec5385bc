-- Searches among places, columns and sets of places.
use Rattle.std.specs.Prelude.{◌≡◌, ◌⊎◌, ℕ, zero, suc, ◌<◌, Bool, true, false, cond, eqb, refl}
use Rattle.std.proofs.Common.{sym, ap, ◌∙◌, subst, inl, inr, arith}
use Rattle.std.proofs.lemmas.Bool.{cases_Bool, true≢false, eq-eqb, ne_eqb}
use Rattle.stark_fri_soundness.specs.Counting.{last, last_or_earlier, later}

-- Something holds at all places below n, or fails at one.
pub all_or_one : (P : ℕ → Type 0) → ((i : ℕ) → P i ⊎ (P i → ⊥)) → (n : ℕ) → ((i : ℕ) → i < n → P i) ⊎ ((i : ℕ) × (i < n) × (P i → ⊥))
all_or_one P decide zero = inl (λ i below. absurd (omega arith))
all_or_one P decide (suc n) = elim (all_or_one P decide n) [
  | inr one ↦ inr (one.0, later one.0 n one.1, one.2)
  | inl all ↦ elim (decide n) [
    | inr fails ↦ inr (n, last n, fails)
    | inl holds ↦ inl (λ i below. elim (last_or_earlier i n below) [ inl same ↦ subst P (sym same) holds | inr earlier ↦ all i earlier ])
  ]
]

-- A place of a set and a column where something fails.
pub record Exception (R : ℕ → ℕ → Type 0) (n m : ℕ) (places : ℕ → Bool) : Type 0 where
  pub place : ℕ
  pub below : place < n
  pub inside : places place ≡ true
  pub column : ℕ
  pub within : column < m
  pub fails : R place column → ⊥

abbrev pub Everywhere : (ℕ → ℕ → Type 0) → ℕ → ℕ → (ℕ → Bool) → Type 0
Everywhere R n m places = (i : ℕ) → i < n → places i ≡ true → (j : ℕ) → j < m → R i j

pub everywhere_or_exception : (R : ℕ → ℕ → Type 0) → ((i j : ℕ) → R i j ⊎ (R i j → ⊥)) → (n m : ℕ) (places : ℕ → Bool) → Everywhere R n m places ⊎ Exception R n m places
everywhere_or_exception R decide zero m places = inl (λ i below. absurd (omega arith))
everywhere_or_exception R decide (suc n) m places =
    let more : Everywhere R n m places → (places n ≡ true → (j : ℕ) → j < m → R n j) → Everywhere R (suc n) m places
    = λ before here i below is. elim (last_or_earlier i n below) [
      | inl same ↦ subst (λ k. (j : ℕ) → j < m → R k j) (sym same) (here (subst (λ k. places k ≡ true) same is))
      | inr earlier ↦ before i earlier is
    ] in
    elim (everywhere_or_exception R decide n m places) [
      | inr one ↦ inr (record { place = one.place; below = later one.place n one.below; inside = one.inside; column = one.column; within = one.within; fails = one.fails })
      | inl before ↦ elim (cases_Bool (places n)) [
        | inr out ↦ inl (more before (λ is. absurd (true≢false (sym is ∙ out))))
        | inl is ↦ elim (all_or_one (R n) (decide n) m) [
          | inl here ↦ inl (more before (λ _. here))
          | inr one ↦ inr (record { place = n; below = last n; inside = is; column = one.0; within = one.1; fails = one.2 })
        ]
      ]
    ]

pub decide_both : {P Q : Type 0} → P ⊎ (P → ⊥) → Q ⊎ (Q → ⊥) → (P × Q) ⊎ (P × Q → ⊥)
decide_both (inr not_first) q = inr (λ both. not_first both.0)
decide_both (inl p) (inr not_second) = inr (λ both. not_second both.1)
decide_both (inl p) (inl q) = inl (p, q)

-- ---- sets of places

-- The set with its answer at one place changed to this one.
abbrev with_answer : ℕ → Bool → (ℕ → Bool) → ℕ → Bool
with_answer n answer places i = cond (eqb i n) answer (places i)

answers_there : (n : ℕ) (answer : Bool) (places : ℕ → Bool) → with_answer n answer places n ≡ answer
answers_there n answer places = ap (λ b. cond b answer (places n)) (eq-eqb n n refl)

stays_elsewhere : (n : ℕ) (answer : Bool) (places : ℕ → Bool) (i : ℕ) → i < n → with_answer n answer places i ≡ places i
stays_elsewhere n answer places i below = ap (λ b. cond b answer (places i)) (ne_eqb i n (λ same. absurd (omega arith)))

abbrev pub SameBelow : ℕ → (ℕ → Bool) → (ℕ → Bool) → Type 0
SameBelow n places others = (i : ℕ) → i < n → places i ≡ others i

-- Sets that are the same below n are so below n + 1 with one answer at n.
same_with_answer : (n : ℕ) (answer : Bool) (places others : ℕ → Bool) → SameBelow n places others → SameBelow (suc n) (with_answer n answer places) (with_answer n answer others)
same_with_answer n answer places others same i below = elim (last_or_earlier i n below) [
  | inl is ↦ subst (λ k. with_answer n answer places k ≡ with_answer n answer others k) (sym is) (answers_there n answer places ∙ sym (answers_there n answer others))
  | inr earlier ↦ stays_elsewhere n answer places i earlier ∙ same i earlier ∙ sym (stays_elsewhere n answer others i earlier)
]

same_by_answer : (n : ℕ) (answer : Bool) (places : ℕ → Bool) → places n ≡ answer → SameBelow (suc n) places (with_answer n answer places)
same_by_answer n answer places is i below = elim (last_or_earlier i n below) [
  | inl there ↦ subst (λ k. places k ≡ with_answer n answer places k) (sym there) (is ∙ sym (answers_there n answer places))
  | inr earlier ↦ sym (stays_elsewhere n answer places i earlier)
]

-- Whether some set has a property that depends on the places below n alone.
pub some_set_or_none : (n : ℕ) (P : (ℕ → Bool) → Type 0) → ((places others : ℕ → Bool) → SameBelow n places others → P places → P others)
    → ((places : ℕ → Bool) → P places ⊎ (P places → ⊥)) → ((places : ℕ → Bool) × P places) ⊎ ((places : ℕ → Bool) → P places → ⊥)
some_set_or_none zero P same decide = elim (decide (λ i. true)) [
  | inl holds ↦ inl ((λ i. true), holds)
  | inr fails ↦ inr (λ places holds. fails (same places (λ i. true) (λ i below. absurd (omega arith)) holds))
]
some_set_or_none (suc n) P same decide =
    elim (some_set_or_none n (λ places. P (with_answer n true places)) (λ places others below. same _ _ (same_with_answer n true places others below)) (λ places. decide (with_answer n true places))) [
      | inl one ↦ inl (with_answer n true one.0, one.1)
      | inr without ↦
          elim (some_set_or_none n (λ places. P (with_answer n false places)) (λ places others below. same _ _ (same_with_answer n false places others below)) (λ places. decide (with_answer n false places))) [
            | inl one ↦ inl (with_answer n false one.0, one.1)
            | inr either ↦ inr (λ places holds. elim (cases_Bool (places n)) [
              | inl is ↦ without places (same places (with_answer n true places) (same_by_answer n true places is) holds)
              | inr is ↦ either places (same places (with_answer n false places) (same_by_answer n false places is) holds)
            ])
          ]
    ]
