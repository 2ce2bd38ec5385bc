-- Lists from a place on.
use Rattle.std.proofs.Common.{◌≡◌, ◌∙◌, ℕ, ◌+◌, ◌<◌, ◌≤◌, List, ◌∷◌, ◌++◌, length, map, drop, get_or, ap, sym}
use Rattle.std.proofs.lemmas.List.{append-nil, drop_all, drop_more}

-- what stands there, and the rest
pub from_place : {A : Type 0} (xs : List A) (i n : ℕ) (x : A) → i + 1 ≡ n → i < length xs → x ≡ get_or xs i x → drop i xs ≡ x ∷ drop n xs
from_place xs i n x next within is = drop_more xs i x within ∙ ap (λ t. t ∷ drop (i + 1) xs) (sym is) ∙ ap (λ m. x ∷ drop m xs) next

-- all of a list was mapped where none of it is left
pub all_mapped_front : {A B : Type 0} (done : List B) (f : A → B) (xs : List A) (i : ℕ) → length xs ≤ i → done ++ map f (drop i xs) ≡ map f xs → done ≡ map f xs
all_mapped_front done f xs i ended e = sym (append-nil done) ∙ ap (λ t. done ++ map f t) (sym (drop_all i xs ended)) ∙ e
