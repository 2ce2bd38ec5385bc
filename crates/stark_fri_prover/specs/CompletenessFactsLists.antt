-- Lists that agree place by place.
use Rattle.std.specs.Prelude.{◌≡◌, List, [], ◌∷◌, length, map, refl, suc}
use Rattle.std.specs.List.{AllByRecursion, zip}
use Rattle.std.proofs.Common.{ap}
use Rattle.stark_support.specs.Faults.{PlaceByPlace}

module _ {A B : Type 0} (R : A → B → Type 0) where
  -- They are as many.
  pub related_count : (xs : List A) (ys : List B) → PlaceByPlace R xs ys → length ys ≡ length xs
  unfolding PlaceByPlace
  related_count [] [] all = refl
  related_count [] (y ∷ ys) all = absurd all
  related_count (x ∷ xs) [] all = absurd all
  related_count (x ∷ xs) (y ∷ ys) all = ap suc (related_count xs ys all.1)

  -- What follows of two related elements holds of all pairs.
  pub all_zipped : (P : A → Type 0) (Q : A × B → Type 0) → ((x : A) (y : B) → P x → R x y → Q (x, y)) → (xs : List A) (ys : List B)
      → AllByRecursion P xs → PlaceByPlace R xs ys → AllByRecursion Q (zip xs ys)
  unfolding PlaceByPlace
  all_zipped P Q follows [] ys each all = tt
  all_zipped P Q follows (x ∷ xs) [] each all = tt
  all_zipped P Q follows (x ∷ xs) (y ∷ ys) each all = (follows x y each.0 all.0, all_zipped P Q follows xs ys each.1 all.1)

-- Another relation that follows.
pub related_with : {A B : Type 0} (P : A → Type 0) (R S : A → B → Type 0) → ((x : A) (y : B) → P x → R x y → S x y) → (xs : List A) (ys : List B)
    → AllByRecursion P xs → PlaceByPlace R xs ys → PlaceByPlace S xs ys
unfolding PlaceByPlace
related_with P R S follows [] [] each all = tt
related_with P R S follows [] (y ∷ ys) each all = absurd all
related_with P R S follows (x ∷ xs) [] each all = absurd all
related_with P R S follows (x ∷ xs) (y ∷ ys) each all = (follows x y each.0 all.0, related_with P R S follows xs ys each.1 all.1)

-- Lists stay related where something stands for the elements of the first.
pub related_mapped : {A B D : Type 0} (f : A → D) (R : D → B → Type 0) (xs : List A) (ys : List B) → PlaceByPlace (λ x y. R (f x) y) xs ys → PlaceByPlace R (map f xs) ys
unfolding PlaceByPlace
related_mapped f R [] [] all = tt
related_mapped f R [] (y ∷ ys) all = absurd all
related_mapped f R (x ∷ xs) [] all = absurd all
related_mapped f R (x ∷ xs) (y ∷ ys) all = (all.0, related_mapped f R xs ys all.1)
