-- Lists that grow place by place.
use Rattle.std.proofs.Common.{◌≡◌, ℕ, ◌+◌, ◌*◌, ◌<◌, ◌≤◌, List, [], ◌∷◌, ◌++◌, drop, ap, arith, get_or, length, map, refl, subst, sym, take, ◌∙◌}
use Rattle.std.specs.List.{AllByRecursion, range_with_len, slice_get}
use Rattle.std.specs.Prelude.{Some}
use Rattle.std.proofs.lemmas.List.{take_all, take_more}
use Rattle.std.proofs.lemmas.List.FromFn.{map-range_with_len_more}
use Rattle.std.proofs.lemmas.Option.{slice_get-get_or}
use Rattle.stark_support.proofs.Loops.{one_more_mapped}
use Rattle.stark_support.proofs.Places.{all_mapped_front, from_place}
use Rattle.stark_support.specs.Faults.{PlaceByPlace}

module _ {A B : Type 0} (R : A → B → Type 0) where
  pub none_related : (ys : List B) → ys ≡ [] → PlaceByPlace R [] ys
  unfolding PlaceByPlace
  none_related ys e = subst (PlaceByPlace R []) (sym e) tt

  -- one more of each
  pub one_more_related : (xs : List A) (ys : List B) (x : A) (y : B) → PlaceByPlace R xs ys → R x y → PlaceByPlace R (xs ++ x ∷ []) (ys ++ y ∷ [])
  unfolding PlaceByPlace
  one_more_related [] [] x y all here = (here, tt)
  one_more_related [] (b ∷ ys) x y all here = absurd all
  one_more_related (a ∷ xs) [] x y all here = absurd all
  one_more_related (a ∷ xs) (b ∷ ys) x y all here = (all.0, one_more_related xs ys x y all.1 here)

  -- one more related to what stands at the next place
  pub one_more_taken : (xs : List A) (i : ℕ) (d : A) (y : B) (before after : List B) → i < length xs → ((x : A) → slice_get xs i ≡ Some x → R x y) → after ≡ before ++ y ∷ []
      → PlaceByPlace R (take i xs) before → PlaceByPlace R (take (i + 1) xs) after
  one_more_taken xs i d y before after within made pushed so_far =
      subst (λ t. PlaceByPlace R t after) (sym (take_more xs i d within))
      (subst (PlaceByPlace R (take i xs ++ get_or xs i d ∷ [])) (sym pushed)
      (one_more_related (take i xs) before (get_or xs i d) y so_far (made (get_or xs i d) (slice_get-get_or xs i d within))))

  pub all_taken : (xs : List A) (i : ℕ) (ys : List B) → length xs ≤ i → PlaceByPlace R (take i xs) ys → PlaceByPlace R xs ys
  all_taken xs i ys ended so_far = subst (λ t. PlaceByPlace R t ys) (take_all i xs ended) so_far

-- ---- lists that are read in turn

module _ {A B : Type 0} (P : A → Type 0) (f : A → B) (xs : List A) where
  -- P holds of what is left, and what was made of the others stands before what is to be made of it.
  abbrev pub IsReadTo : ℕ → List B → Type 0
  IsReadTo i made = AllByRecursion P (drop i xs) × (made ++ map f (drop i xs) ≡ map f xs)

  pub here_holds : (i : ℕ) (x : A) → i < length xs → x ≡ get_or xs i x → AllByRecursion P (drop i xs) → P x
  here_holds i x within is all = (subst (AllByRecursion P) (from_place xs i (i + 1) x refl within is) all).0

  pub read_more : (i : ℕ) (x : A) (y : B) (before after : List B) → i < length xs → x ≡ get_or xs i x → y ≡ f x → after ≡ before ++ y ∷ [] → IsReadTo i before → IsReadTo (i + 1) after
  read_more i x y before after within is gives pushed so_far = (
    (subst (AllByRecursion P) (from_place xs i (i + 1) x refl within is) so_far.0).1,
    one_more_mapped f xs i x within is before after y gives pushed so_far.1,
  )

  pub read_all : (i : ℕ) (made : List B) → length xs ≤ i → IsReadTo i made → made ≡ map f xs
  read_all i made ended so_far = all_mapped_front made f xs i ended so_far.1

-- ---- what is computed of each place in turn

pub place_more : {A : Type 0} (f : ℕ → A) (n : ℕ) (x : A) (before after : List A) → after ≡ before ++ x ∷ []
    → before ≡ map f (range_with_len 0 n) → x ≡ f n → after ≡ map f (range_with_len 0 (n + 1))
place_more f n x before after pushed so_far is =
    pushed ∙ ap (λ t. t ++ x ∷ []) so_far ∙ ap (λ t. map f (range_with_len 0 n) ++ t ∷ []) is
    ∙ sym (map-range_with_len_more f 0 n n (omega arith))

-- one more of a group of eight
pub lane_more : {A : Type 0} (f : ℕ → A) (group j : ℕ) (x : A) (before after : List A) → after ≡ before ++ x ∷ []
    → before ≡ map f (range_with_len 0 (8 * group + j)) → x ≡ f (8 * group + j) → after ≡ map f (range_with_len 0 (8 * group + (j + 1)))
lane_more f group j x before after pushed so_far is =
    let next : 8 * group + j + 1 ≡ 8 * group + (j + 1) = omega arith in
    subst (λ n. after ≡ map f (range_with_len 0 n)) next (place_more f (8 * group + j) x before after pushed so_far is)
