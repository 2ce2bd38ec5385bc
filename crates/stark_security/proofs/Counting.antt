-- How many members of lists, and how many pairs, have a property that few values have.
use Rattle.std.proofs.Common.{◌≡◌, ◌≢◌, ◌⊎◌, ap, refl, arith, inl, inr, ℕ, suc, ◌+◌, ◌*◌, ◌≤◌, List, [], ◌∷◌, length}
use Rattle.std.specs.List.{AllByRecursion}
use Rattle.stark_support.specs.Polynomial.{IsWithoutRepeats, HoldsOfAtMost}
use Rattle.stark_security.specs.BadValues.{count_where, count_pairs}

at_most_same : (l n b : ℕ) → l ≡ n → l ≤ b → n ≤ b
at_most_same l n b h k = omega arith

-- The members with a property, as a list.
record Selected {A : Type 0} (P : A → Type 0) (xs : List A) (n : ℕ) : Type 0 where
  members : List A
  size : length members ≡ n
  hold : AllByRecursion P members
  distinct : IsWithoutRepeats members
  apart : (z : A) → AllByRecursion (λ y. z ≢ y) xs → AllByRecursion (λ y. z ≢ y) members

suc_both : (a b : ℕ) → a ≤ b → suc a ≤ suc b
suc_both a b h = omega arith

suc_right : (a b : ℕ) → a ≤ b → a ≤ suc b
suc_right a b h = omega arith

module _ {A : Type 0} {P : A → Type 0} (decide : (x : A) → P x ⊎ (P x → ⊥)) where
  selected : (xs : List A) → IsWithoutRepeats xs → Selected P xs (count_where decide xs)
  selected [] distinct = record { members = []; size = refl; hold = tt; distinct = tt; apart = λ z h. tt }
  selected (x ∷ xs) distinct =
      let rest = selected xs distinct.1 in
      elim (decide x) as (λ d. Selected P (x ∷ xs) (elim d [ inl h ↦ suc (count_where decide xs) | inr h ↦ count_where decide xs ])) [
        | inl h ↦ record { members = x ∷ rest.members; size = ap suc rest.size; hold = (h, rest.hold); distinct = (rest.apart x distinct.0, rest.distinct); apart = λ z others. (others.0, rest.apart z others.1) }
        | inr h ↦ record { members = rest.members; size = rest.size; hold = rest.hold; distinct = rest.distinct; apart = λ z others. rest.apart z others.1 }
      ]

  -- Of a list without repeats, at most n members have a property that holds of at most n values.
  pub count_at_most : (n : ℕ) (xs : List A) → HoldsOfAtMost n P → IsWithoutRepeats xs → count_where decide xs ≤ n
  count_at_most n xs few distinct =
      let obtained = selected xs distinct in
      at_most_same (length obtained.members) (count_where decide xs) n obtained.size (few obtained.members obtained.distinct obtained.hold)

  pub count_at_most_all : (xs : List A) → count_where decide xs ≤ length xs
  count_at_most_all [] = omega arith
  count_at_most_all (x ∷ xs) =
      elim (decide x) as (λ d. elim d [ inl h ↦ suc (count_where decide xs) | inr h ↦ count_where decide xs ] ≤ suc (length xs)) [
        | inl h ↦ suc_both (count_where decide xs) (length xs) (count_at_most_all xs)
        | inr h ↦ suc_right (count_where decide xs) (length xs) (count_at_most_all xs)
      ]

bad_step : (c r b lz nz la : ℕ) → c ≤ lz → r ≤ b * lz + nz * la → c + r ≤ suc b * lz + nz * suc la
bad_step c r b lz nz la h k = omega arith

good_step : (c r b lz nz la : ℕ) → c ≤ nz → r ≤ b * lz + nz * la → c + r ≤ b * lz + nz * suc la
good_step c r b lz nz la h k = omega arith

no_pairs : (lz nz : ℕ) → 0 ≤ 0 * lz + nz * 0
no_pairs lz nz = omega arith

more_bad : (t b na lz nz la : ℕ) → b ≤ na → t ≤ b * lz + nz * la → t ≤ na * lz + nz * la
more_bad t b na lz nz la h k = grind arith

module _ {A : Type 0} {B : Type 0} {P : A → B → Type 0} {Bad : A → Type 0}
    (decide : (x : A) (y : B) → P x y ⊎ (P x y → ⊥)) (decide_bad : (x : A) → Bad x ⊎ (Bad x → ⊥)) where
  counted : (nz : ℕ) → ((x : A) → (Bad x → ⊥) → HoldsOfAtMost nz (P x)) → (xs : List A) (ys : List B) → IsWithoutRepeats ys →
      count_pairs decide xs ys ≤ count_where decide_bad xs * length ys + nz * length xs
  counted nz few [] ys distinct = no_pairs (length ys) nz
  counted nz few (x ∷ xs) ys distinct =
      let rest = counted nz few xs ys distinct in
      elim (decide_bad x) as (λ d. count_where (decide x) ys + count_pairs decide xs ys ≤ elim d [ inl h ↦ suc (count_where decide_bad xs) | inr h ↦ count_where decide_bad xs ] * length ys + nz * suc (length xs)) [
        | inl bad ↦ bad_step (count_where (decide x) ys) (count_pairs decide xs ys) (count_where decide_bad xs) (length ys) nz (length xs) (count_at_most_all (decide x) ys) rest
        | inr good ↦ good_step (count_where (decide x) ys) (count_pairs decide xs ys) (count_where decide_bad xs) (length ys) nz (length xs) (count_at_most (decide x) nz ys (few x good) distinct) rest
      ]

  -- Where at most na first parts are bad, and each other goes with at most nz second parts, at most na lz + nz la pairs of la and lz are met.
  pub pairs_at_most : (na nz : ℕ) → HoldsOfAtMost na Bad → ((x : A) → (Bad x → ⊥) → HoldsOfAtMost nz (P x)) → (xs : List A) (ys : List B) → IsWithoutRepeats xs → IsWithoutRepeats ys →
      count_pairs decide xs ys ≤ na * length ys + nz * length xs
  pairs_at_most na nz few_bad few xs ys distinct distinct_second =
      more_bad (count_pairs decide xs ys) (count_where decide_bad xs) na (length ys) nz (length xs)
      (count_at_most decide_bad na xs few_bad distinct) (counted nz few xs ys distinct_second)
