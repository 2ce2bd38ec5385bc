-- The steps of eight queries side by side.
use Rattle.std.proofs.Common.{◌≡◌, ◌∙◌, ℕ, zero, suc, ◌+◌, ◌<◌, ◌≤◌, List, [], ◌∷◌, ◌++◌, length, get_or, drop, map, slice_set, take, sym, ap, refl, subst, arith}
use Rattle.std.specs.List.{AllByRecursion, zip}
use Rattle.std.proofs.lemmas.List.{length-map, map-set}
use Rattle.stark_sha256.proofs.LaneFacts.{one_more}
use Rattle.stark_fri.specs.Eights.{InBothEight, IsReadAt}
use Rattle.stark_support.specs.Faults.{IsFirstFaultWith, PlaceByPlace}
use Rattle.stark_fri.proofs.ListSteps.{HoldsSoFar, PassedWith, passed_with_start}

-- ---- elements of lists

module _ {A : Type 0} where
  -- What stands at a place is one.
  pub same_at : (xs : List A) (j : ℕ) (x y : A) → j < length xs → x ≡ get_or xs j x → y ≡ get_or xs j y → x ≡ y
  same_at [] j x y low is_x is_y = absurd (omega arith)
  same_at (z ∷ xs) zero x y low is_x is_y = is_x ∙ sym is_y
  same_at (z ∷ xs) (suc j) x y low is_x is_y = same_at xs j x y (omega arith) is_x is_y

  pub at_itself : (xs : List A) (j : ℕ) (d : A) → j < length xs → get_or xs j d ≡ get_or xs j (get_or xs j d)
  at_itself [] j d low = absurd (omega arith)
  at_itself (x ∷ xs) zero d low = refl
  at_itself (x ∷ xs) (suc j) d low = at_itself xs j d (omega arith)

  -- Something stands there.
  pub some_at : (xs : List A) (j : ℕ) → j < length xs → (x : A) × (x ≡ get_or xs j x)
  some_at [] j low = absurd (omega arith)
  some_at (x ∷ xs) zero low = (x, refl)
  some_at (x ∷ xs) (suc j) low = some_at xs j (omega arith)

  -- One more after the others.
  pub pushed_more : (R : ℕ → A → Type 0) (xs : List A) (x : A) → R (length xs) x → ((w : A) (j : ℕ) → j < length xs → w ≡ get_or xs j w → R j w)
      → (w : A) (j : ℕ) → j < length xs + 1 → w ≡ get_or (xs ++ x ∷ []) j w → R j w
  pushed_more R [] x r so_far w zero low is = subst (R 0) (sym is) r
  pushed_more R [] x r so_far w (suc j) low is = absurd (omega arith)
  pushed_more R (y ∷ xs) x r so_far w zero low is = so_far w zero (omega arith) is
  pushed_more R (y ∷ xs) x r so_far w (suc j) low is = pushed_more (λ k. R (suc k)) xs x r (λ v k less at. so_far v (suc k) (omega arith) at) w j (omega arith) is

-- What holds before a place of a list's entries, each as f has it, and of the one that is set there, holds of all up to it.
pub mapped_more : {A B : Type 0} (f : A → B) (P : ℕ → B → Type 0) (xs : List A) (j : ℕ) (x : A) (d : B) → j < length xs → ((k : ℕ) → k < j → P k (get_or (map f xs) k d)) → P j (f x)
    → (k : ℕ) → k < j + 1 → P k (get_or (map f (slice_set xs j x)) k d)
mapped_more f P xs j x d within before new k low =
    subst (λ t. P k (get_or t k d)) (sym (map-set f xs j x)) (one_more P (map f xs) j (f x) d (omega (arith, within, length-map xs f)) before new k low)

-- What is read of an entry that stands there.
pub read_here : {A B C : Type 0} (list : A → List B) (read : B → C) (i : ℕ) (xs : List A) (k : ℕ) (x : A) (entry : B) (c : C) → k < length xs → i < length (list x)
    → x ≡ get_or xs k x → entry ≡ get_or (list x) i entry → c ≡ read entry → IsReadAt list read i xs k c
read_here list read i xs k x entry c in_xs in_list is_x is_entry is other another is_other is_another =
    let same = same_at xs k x other in_xs is_x is_other in
    is ∙ ap read (same_at (list x) i entry another in_list is_entry (subst (λ t. another ≡ get_or (list t) i another) (sym same) is_another))

-- ---- the first queries

module _ {A B : Type 0} where
  all_zipped : (P : A × B → Type 0) (xs : List A) (ys : List B) → ((j : ℕ) (x : A) (y : B) → j < length xs → x ≡ get_or xs j x → y ≡ get_or ys j y → P (x, y)) → AllByRecursion P (zip xs ys)
  all_zipped P [] ys each = tt
  all_zipped P (x ∷ xs) [] each = tt
  all_zipped P (x ∷ xs) (y ∷ ys) each = (each zero x y (omega arith) refl refl, all_zipped P xs ys (λ j a b low is_a is_b. each (suc j) a b (omega arith) is_a is_b))

  pub all_of_eight : (P : A × B → Type 0) (xs : List A) (ys : List B) → length xs ≡ 8 → InBothEight (λ x y. P (x, y)) xs ys → AllByRecursion P (zip xs ys)
  all_of_eight P xs ys eight each = all_zipped P xs ys (λ j x y low is_x is_y. each j x y (omega arith) is_x is_y)

  pub placed_length : (R : A → B → Type 0) (xs : List A) (ys : List B) → PlaceByPlace R xs ys → length ys ≡ length xs
  unfolding PlaceByPlace
  placed_length R [] [] each = refl
  placed_length R [] (y ∷ ys) each = absurd each
  placed_length R (x ∷ xs) [] each = absurd each
  placed_length R (x ∷ xs) (y ∷ ys) each = ap suc (placed_length R xs ys each.1)

one_later : (n k : ℕ) → suc (n + k) ≡ suc n + k
one_later n k = omega arith

-- Where the first hold, all hold if those after them do; and the first fault comes after them.
pub first_hold : {A : Type 0} (P : A → Type 0) (xs : List A) (n : ℕ) → AllByRecursion P (take n xs) → HoldsSoFar P xs n
first_hold P xs zero holding = λ rest. rest
first_hold P [] (suc n) holding = λ rest. tt
first_hold P (x ∷ xs) (suc n) holding = λ rest. (holding.0, first_hold P xs n holding.1 rest)

pub first_passed : {A : Type 0} (P Q : A → Type 0) (xs : List A) (n : ℕ) → n ≤ length xs → AllByRecursion P (take n xs) → PassedWith P Q xs n
unfolding IsFirstFaultWith
first_passed P Q xs zero few holding = passed_with_start P Q xs
first_passed P Q [] (suc n) few holding = absurd (omega arith)
first_passed P Q (x ∷ xs) (suc n) few holding = λ k fault. subst (IsFirstFaultWith P Q (x ∷ xs)) (one_later n k) (holding.0, first_passed P Q xs n (omega arith) holding.1 k fault)

-- ---- eight more

module _ {A B : Type 0} where
  zip_take : (xs : List A) (ys : List B) (n : ℕ) → zip (take n xs) (take n ys) ≡ take n (zip xs ys)
  zip_take xs ys zero = refl
  zip_take [] ys (suc n) = refl
  zip_take (x ∷ xs) [] (suc n) = refl
  zip_take (x ∷ xs) (y ∷ ys) (suc n) = ap (λ t. (x, y) ∷ t) (zip_take xs ys n)

  pub accepted_more : (P : A × B → Type 0) (xs : List A) (ys : List B) (at more : ℕ) → AllByRecursion P (take at (zip xs ys)) → AllByRecursion P (zip (take more (drop at xs)) (take more (drop at ys)))
      → AllByRecursion P (take (at + more) (zip xs ys))
  accepted_more P xs ys zero more holding next =
      let none : more ≡ 0 + more = omega arith in
      subst (λ n. AllByRecursion P (take n (zip xs ys))) none (subst (AllByRecursion P) (zip_take xs ys more) next)
  accepted_more P [] ys (suc at) more holding next = subst (λ n. AllByRecursion P (take n (zip [] ys))) (one_later at more) tt
  accepted_more P (x ∷ xs) [] (suc at) more holding next = subst (λ n. AllByRecursion P (take n (zip (x ∷ xs) []))) (one_later at more) tt
  accepted_more P (x ∷ xs) (y ∷ ys) (suc at) more holding next =
      subst (λ n. AllByRecursion P (take n (zip (x ∷ xs) (y ∷ ys)))) (one_later at more) (holding.0, accepted_more P xs ys at more holding.1 next)

-- Fewer of the first.
pub fewer_hold : {A : Type 0} (P : A → Type 0) (xs : List A) (few many : ℕ) → few ≤ many → AllByRecursion P (take many xs) → AllByRecursion P (take few xs)
fewer_hold P xs zero many less holding = tt
fewer_hold P xs (suc few) zero less holding = absurd (omega arith)
fewer_hold P [] (suc few) (suc many) less holding = tt
fewer_hold P (x ∷ xs) (suc few) (suc many) less holding = (holding.0, fewer_hold P xs few many (omega arith) holding.1)
