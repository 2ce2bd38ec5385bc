-- Places in mapped and joined lists, and lists that grow at their end.
use Rattle.std.specs.Prelude.{◌≡◌, ◌⊎◌, ℕ, zero, suc, ◌+◌, ◌-◌, ◌<◌, ◌≤◌, List, [], ◌∷◌, ◌++◌, length, map, take, Option, Some, refl}
use Rattle.std.specs.List.{slice_get, slice_index_or}
use Rattle.std.proofs.Common.{sym, ◌∙◌, ap, inl, inr, arith, length-append}
use Rattle.std.proofs.lemmas.Option.{slice_get_within}

pub same_maps : {A B : Type 0} (f g : A → B) → ((x : A) → f x ≡ g x) → (xs : List A) → map f xs ≡ map g xs
same_maps f g same [] = refl
same_maps f g same (x ∷ xs) = ap (λ y. y ∷ map f xs) (same x) ∙ ap (λ ys. g x ∷ ys) (same_maps f g same xs)

pub mapped_at : {A B : Type 0} (f : A → B) (xs : List A) (i : ℕ) (a : A) (b : B) → i < length xs → slice_index_or (map f xs) i b ≡ f (slice_index_or xs i a)
mapped_at f [] i a b h = absurd (omega arith)
mapped_at f (x ∷ xs) zero a b h = refl
mapped_at f (x ∷ xs) (suc i) a b h = mapped_at f xs i a b (omega arith)

-- at any place, where the one filler is sent to the other
pub mapped_or_filler : {A B : Type 0} (f : A → B) (xs : List A) (i : ℕ) (a : A) (b : B) → f a ≡ b → slice_index_or (map f xs) i b ≡ f (slice_index_or xs i a)
mapped_or_filler f [] i a b h = sym h
mapped_or_filler f (x ∷ xs) zero a b h = refl
mapped_or_filler f (x ∷ xs) (suc i) a b h = mapped_or_filler f xs i a b h

none_below : {i : ℕ} → i < 0 → ⊥
none_below h = omega arith

pub no_such : {A : Type 0} (i : ℕ) (x : A) → slice_get [] i ≡ Some x → ⊥
no_such i x h = none_below (slice_get_within [] i x h)

pub slice_get-append_left : {A : Type 0} (xs ys : List A) (i : ℕ) → i < length xs → slice_get (xs ++ ys) i ≡ slice_get xs i
slice_get-append_left [] ys i h = absurd (omega arith)
slice_get-append_left (x ∷ xs) ys zero h = refl
slice_get-append_left (x ∷ xs) ys (suc i) h = slice_get-append_left xs ys i (omega arith)

pub slice_get-append_right : {A : Type 0} (xs ys : List A) (n i : ℕ) → length xs ≡ n → n ≤ i → slice_get (xs ++ ys) i ≡ slice_get ys (i - n)
slice_get-append_right [] ys n i e h = ap (slice_get ys) (omega (arith, e))
slice_get-append_right (x ∷ xs) ys n zero e h = absurd (omega (arith, e, h))
slice_get-append_right (x ∷ xs) ys n (suc i) e h = slice_get-append_right xs ys (n - 1) i (omega (arith, e)) (omega (arith, h)) ∙ ap (slice_get ys) (omega (arith, e, h))

pub slice_get-append-add : {A : Type 0} (xs ys : List A) (i : ℕ) → slice_get (xs ++ ys) (length xs + i) ≡ slice_get ys i
slice_get-append-add xs ys i = slice_get-append_right xs ys (length xs) (length xs + i) refl (omega arith) ∙ ap (slice_get ys) (omega arith)

pub slice_get-take : {A : Type 0} (xs : List A) (k i : ℕ) → i < k → slice_get (take k xs) i ≡ slice_get xs i
slice_get-take xs zero i h = absurd (omega arith)
slice_get-take [] (suc k) i h = refl
slice_get-take (x ∷ xs) (suc k) zero h = refl
slice_get-take (x ∷ xs) (suc k) (suc i) h = slice_get-take xs k i (omega arith)

pub slice_get-last : {A : Type 0} (xs : List A) (a : A) → slice_get (xs ++ a ∷ []) (length xs) ≡ Some a
slice_get-last [] a = refl
slice_get-last (x ∷ xs) a = slice_get-last xs a

pub last_or_below : (i n : ℕ) → i < n + 1 → (i ≡ n) ⊎ (i < n)
last_or_below i n h = grind arith

-- One more element, where each is given by its place.
pub one_more_number : {A : Type 0} (before after : List A) (x : A) (n : ℕ) → length before ≡ n → after ≡ before ++ x ∷ [] → length after ≡ n + 1
one_more_number before after x n number e = ap length e ∙ length-append before (x ∷ []) ∙ ap (λ m. m + 1) number

pub one_more_listed : {A : Type 0} (f : ℕ → Option A) (before after : List A) (x : A) (n : ℕ) → length before ≡ n → ((i : ℕ) → i < n → slice_get before i ≡ f i)
    → f n ≡ Some x → after ≡ before ++ x ∷ [] → (i : ℕ) → i < n + 1 → slice_get after i ≡ f i
one_more_listed f before after x n number listed is e i h = ap (λ xs. slice_get xs i) e ∙ elim (last_or_below i n h) [
  | inl same ↦ ap (slice_get (before ++ x ∷ [])) (same ∙ sym number) ∙ slice_get-last before x ∙ sym is ∙ ap f (sym same)
  | inr below ↦ slice_get-append_left before (x ∷ []) i (omega (arith, number)) ∙ listed i below
]
