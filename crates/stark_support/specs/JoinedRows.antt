-- Rows that are joined to one list.
use Rattle.std.specs.Prelude.{◌≡◌, ℕ, zero, suc, ◌+◌, ◌-◌, ◌*◌, List, [], ◌∷◌, ◌++◌, length, take, Some}
use Rattle.std.specs.List.{flat_map, slice_get}
use Rattle.std.proofs.Common.{sym, ap, ◌∙◌, arith, drop}
use Rattle.std.proofs.Math.Seq.{take-append_seam, drop-append-add}
use Rattle.std.proofs.lemmas.List.Concat.{flat_map-cons}
use Rattle.std.proofs.lemmas.Option.{same_Some}
use Rattle.stark_support.specs.ListFacts.{no_such}
use Rattle.stark_support.specs.Scheme.{matrix_row}

as_far_as : (r w : ℕ) → (r * w + w) - r * w ≡ w
as_far_as r w = omega arith

pub cut : {A : Type 0} (xs : List A) (w r : ℕ) → matrix_row xs w r ≡ take w (drop (r * w) xs)
cut xs w r = ap (λ k. take k (drop (r * w) xs)) (as_far_as r w)

nothing_before : (w : ℕ) → 0 * w ≡ 0
nothing_before w = omega arith

one_row_before : (r w : ℕ) → suc r * w ≡ w + r * w
one_row_before r w = omega arith

taken_row : {A B : Type 0} (f : A → List B) (w : ℕ) → ((x : A) → length (f x) ≡ w) → (xs : List A) (r : ℕ) (x : A) → slice_get xs r ≡ Some x → take w (drop (r * w) (flat_map f xs)) ≡ f x
taken_row f w each [] r x h = absurd (no_such r x h)
taken_row f w each (y ∷ xs) zero x h =
    ap (λ k. take w (drop k (flat_map f (y ∷ xs)))) (nothing_before w) ∙ ap (take w) (flat_map-cons f y xs) ∙ ap (λ k. take k (f y ++ flat_map f xs)) (sym (each y))
    ∙ take-append_seam (f y) (flat_map f xs) ∙ ap f (same_Some y x h)
taken_row f w each (y ∷ xs) (suc r) x h =
    ap (λ k. take w (drop k (flat_map f (y ∷ xs)))) (one_row_before r w ∙ ap (λ k. k + r * w) (sym (each y))) ∙ ap (λ t. take w (drop (length (f y) + r * w) t)) (flat_map-cons f y xs)
    ∙ ap (take w) (drop-append-add (f y) (flat_map f xs) (r * w)) ∙ taken_row f w each xs r x h

-- Row r of joined rows is the r-th of them.
pub row_of_joined : {A B : Type 0} (f : A → List B) (w : ℕ) → ((x : A) → length (f x) ≡ w) → (xs : List A) (r : ℕ) (x : A) → slice_get xs r ≡ Some x → matrix_row (flat_map f xs) w r ≡ f x
row_of_joined f w each xs r x h = cut (flat_map f xs) w r ∙ taken_row f w each xs r x h
