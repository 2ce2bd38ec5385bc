-- Loops over lists, by what is left of them.
use Rattle.std.proofs.Common.{◌≡◌, ◌∙◌, ℕ, suc, ◌+◌, ◌<◌, ◌≤◌, ◌↔◌, IsTrue, true, false, List, [], ◌∷◌, ◌++◌, length, get_or, drop, map, refl, sym, ap, subst, arith, append_assoc}
use Rattle.std.specs.List.{AllByRecursion}
use Rattle.std.proofs.lemmas.Bool.{false≢true}
use Rattle.std.proofs.lemmas.List.{drop_all}
use Rattle.stark_support.proofs.Places.{from_place}
use Rattle.stark_support.specs.Faults.{IsFirstFault, PlaceByPlace}

pub shown : {W : Type 0} → W → IsTrue true ↔ W
shown w = (λ h. w, λ h. refl)

pub refuted : {W : Type 0} → (W → ⊥) → IsTrue false ↔ W
refuted n = (λ h. absurd (false≢true h), λ w. absurd (n w))

module _ {A B : Type 0} (f : A → B) (xs : List A) (i : ℕ) (x : A) (within : i < length xs) (is : x ≡ get_or xs i x) where
  pub mapped_here : map f (drop i xs) ≡ f x ∷ map f (drop (i + 1) xs)
  mapped_here = ap (map f) (from_place xs i (i + 1) x refl within is)

  -- one more element was mapped
  pub one_more_mapped : (done after : List B) (y : B) → y ≡ f x → after ≡ done ++ y ∷ [] → done ++ map f (drop i xs) ≡ map f xs → after ++ map f (drop (i + 1) xs) ≡ map f xs
  one_more_mapped done after y value pushed so_far =
      ap (λ t. t ++ map f (drop (i + 1) xs)) (pushed ∙ ap (λ t. done ++ t ∷ []) value) ∙ append_assoc done (f x ∷ []) (map f (drop (i + 1) xs))
      ∙ ap (λ t. done ++ t) (sym mapped_here) ∙ so_far

module _ {A B : Type 0} (f : A → B) (P : B → Type 0) (xs : List A) where
  -- what is left holds exactly where the whole does
  abbrev pub Left : ℕ → Type 0
  Left i = AllByRecursion P (map f (drop i xs)) ↔ AllByRecursion P (map f xs)

  pub left_start : Left 0
  left_start = (λ h. h, λ h. h)

  pub left_step : (i : ℕ) (x : A) → i < length xs → x ≡ get_or xs i x → P (f x) → Left i → Left (i + 1)
  left_step i x h e p w =
      let s : AllByRecursion P (map f (drop i xs)) ≡ AllByRecursion P (f x ∷ map f (drop (i + 1) xs)) = ap (AllByRecursion P) (mapped_here f xs i x h e) in
      (λ r. w.0 (subst (λ t. t) (sym s) (p, r)), λ r. (subst (λ t. t) s (w.1 r)).1)

  pub left_stop : (i : ℕ) (x : A) → i < length xs → x ≡ get_or xs i x → (P (f x) → ⊥) → Left i → AllByRecursion P (map f xs) → ⊥
  left_stop i x h e p w r = p (subst (AllByRecursion P) (mapped_here f xs i x h e) (w.1 r)).0

  pub left_end : (i : ℕ) → length xs ≤ i → Left i → AllByRecursion P (map f xs)
  left_end i h w = w.0 (subst (λ t. AllByRecursion P (map f t)) (sym (drop_all i xs h)) tt)

  -- the first failure of what is left is the first of the whole
  abbrev pub Passed : ℕ → Type 0
  Passed i = (k : ℕ) → IsFirstFault P (map f (drop i xs)) k → IsFirstFault P (map f xs) (i + k)

  pub passed_start : Passed 0
  passed_start k h = subst (λ n. IsFirstFault P (map f xs) n) (omega arith) h

  passed_shift : (i k : ℕ) → i + suc k ≡ (i + 1) + k
  passed_shift i k = omega arith

  pub passed_step : (i : ℕ) (x : A) → i < length xs → x ≡ get_or xs i x → P (f x) → Passed i → Passed (i + 1)
  unfolding IsFirstFault
  passed_step i x h e p w k r =
      subst (λ n. IsFirstFault P (map f xs) n) (passed_shift i k)
      (w (suc k) (subst (λ t. IsFirstFault P t (suc k)) (sym (mapped_here f xs i x h e)) (p, r)))

  pub passed_stop : (i : ℕ) (x : A) → i < length xs → x ≡ get_or xs i x → (P (f x) → ⊥) → Passed i → IsFirstFault P (map f xs) i
  unfolding IsFirstFault
  passed_stop i x h e n w =
      subst (λ n. IsFirstFault P (map f xs) n) (omega arith) (w 0 (subst (λ t. IsFirstFault P t 0) (sym (mapped_here f xs i x h e)) n))

module _ {A B C D : Type 0} (f : A → B) (g : C → D) (R : B → D → Type 0) where
  pub same_lengths : (xs : List A) (ys : List C) → PlaceByPlace R (map f xs) (map g ys) → length ys ≡ length xs
  unfolding PlaceByPlace
  same_lengths [] [] h = refl
  same_lengths [] (y ∷ ys) h = absurd h
  same_lengths (x ∷ xs) [] h = absurd h
  same_lengths (x ∷ xs) (y ∷ ys) h = ap suc (same_lengths xs ys h.1)

module _ {A B C D : Type 0} (f : A → B) (g : C → D) (R : B → D → Type 0) (xs : List A) (ys : List C) where
  abbrev pub BothLeft : ℕ → Type 0
  BothLeft i = PlaceByPlace R (map f (drop i xs)) (map g (drop i ys)) ↔ PlaceByPlace R (map f xs) (map g ys)

  pub both_start : BothLeft 0
  both_start = (λ h. h, λ h. h)

  both_here : (i : ℕ) (x : A) (y : C) → i < length xs → i < length ys → x ≡ get_or xs i x → y ≡ get_or ys i y
      → PlaceByPlace R (map f (drop i xs)) (map g (drop i ys)) ≡ (R (f x) (g y) × PlaceByPlace R (map f (drop (i + 1) xs)) (map g (drop (i + 1) ys)))
  unfolding PlaceByPlace
  both_here i x y h k e d =
      ap (λ t. PlaceByPlace R t (map g (drop i ys))) (mapped_here f xs i x h e) ∙ ap (λ t. PlaceByPlace R (f x ∷ map f (drop (i + 1) xs)) t) (mapped_here g ys i y k d)

  pub both_step : (i : ℕ) (x : A) (y : C) → i < length xs → i < length ys → x ≡ get_or xs i x → y ≡ get_or ys i y → R (f x) (g y) → BothLeft i → BothLeft (i + 1)
  both_step i x y h k e d p w =
      let s = both_here i x y h k e d in
      (λ r. w.0 (subst (λ t. t) (sym s) (p, r)), λ r. (subst (λ t. t) s (w.1 r)).1)

  pub both_stop : (i : ℕ) (x : A) (y : C) → i < length xs → i < length ys → x ≡ get_or xs i x → y ≡ get_or ys i y → (R (f x) (g y) → ⊥) → BothLeft i
      → PlaceByPlace R (map f xs) (map g ys) → ⊥
  both_stop i x y h k e d p w r = p (subst (λ t. t) (both_here i x y h k e d) (w.1 r)).0

  pub both_end : (i : ℕ) → length xs ≤ i → length ys ≡ length xs → BothLeft i → PlaceByPlace R (map f xs) (map g ys)
  unfolding PlaceByPlace
  both_end i h n w =
      w.0 (subst (λ t. PlaceByPlace R (map f t) (map g (drop i ys))) (sym (drop_all i xs h))
      (subst (λ t. PlaceByPlace R [] (map g t)) (sym (drop_all i ys (omega arith))) tt))
