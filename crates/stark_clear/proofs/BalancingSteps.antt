-- The masks of a quotient's last chunk, computed from the others.
use Rattle.std.proofs.Common.{◌≡◌, ◌∙◌, ℕ, zero, suc, ◌+◌, ◌<◌, ◌≤◌, List, [], ◌∷◌, length, map, drop, get_or, refl, sym, ap, arith, subst}
use Rattle.std.specs.List.{AllByRecursion}
use Rattle.std.proofs.lemmas.List.{drop_all, get_or-map}
use Rattle.stark_support.specs.Ring.{RingOps, difference}
use Rattle.stark_support.specs.Polynomial.{polynomial_ring}
use Rattle.stark_support.proofs.Places.{from_place}
use Rattle.stark_clear.specs.Masks.{HasMaskAt, HasMasks, less_all}

-- what holds of all holds of one
pub one_of_all : {A B : Type 0} (f : A → B) (P : B → Type 0) (xs : List A) (i : ℕ) (x : A) → AllByRecursion P (map f xs) → i < length xs → x ≡ get_or xs i x → P (f x)
one_of_all f P [] i x all h e = absurd (omega arith)
one_of_all f P (y ∷ xs) zero x all h e = subst (λ t. P (f t)) (sym e) all.0
one_of_all f P (y ∷ xs) (suc i) x all h e = one_of_all f P xs i x all.1 (omega arith) e

-- what a read of a list is in the list's image
pub mask_read : {A F : Type 0} (f : A → List F) (xs : List A) (c : ℕ) (x : A) (q : List F) → c < length xs → x ≡ get_or xs c x → q ≡ f x → q ≡ get_or (map f xs) c []
mask_read f xs c x q h is e = e ∙ ap f is ∙ sym (get_or-map f xs c x [] h)

module _ {F : Type 0} where
  mask_at : (c width size : ℕ) (masks : List (List F)) → length masks ≡ width → AllByRecursion (λ mask. length mask ≡ size) masks → c < width → HasMaskAt c size masks
  mask_at c width size [] n all h = absurd (omega arith)
  mask_at zero width size (m ∷ masks) n all h = (omega arith, all.0)
  mask_at (suc c) width size (m ∷ masks) n all h =
      let later = mask_at c (length masks) size masks refl all.1 (omega arith) in (omega (arith, later.0), later.1)

  -- each column of as many has a mask
  pub masks_at : (c width size : ℕ) (chosen : List (List (List F))) → AllByRecursion (HasMasks width size) chosen → c < width → AllByRecursion (HasMaskAt c size) chosen
  masks_at c width size [] all h = tt
  masks_at c width size (masks ∷ chosen) all h = (mask_at c width size masks all.0.0 all.0.1 h, masks_at c width size chosen all.1 h)

module _ {F : Type 0} (field : RingOps F) where
  module _ {A : Type 0} (f : A → List (List F)) (chosen : List A) (c size : ℕ) where
    -- one more chunk's mask taken off
    pub one_more_off : (i : ℕ) (x : A) (p after q whole : List F) → i < length chosen → x ≡ get_or chosen i x → q ≡ get_or (f x) c [] → after ≡ difference (polynomial_ring field) p q
        → less_all field p (map (λ masks. get_or masks c []) (map f (drop i chosen))) ≡ whole → less_all field after (map (λ masks. get_or masks c []) (map f (drop (i + 1) chosen))) ≡ whole
    one_more_off i x p after q whole h is is_q less so_far =
        ap (λ t. less_all field t (map (λ masks. get_or masks c []) (map f (drop (i + 1) chosen)))) (less ∙ ap (difference (polynomial_ring field) p) is_q)
        ∙ ap (λ t. less_all field p (map (λ masks. get_or masks c []) (map f t))) (sym (from_place chosen i (i + 1) x refl h is)) ∙ so_far

    pub all_taken_off : (i : ℕ) (p whole : List F) → length chosen ≤ i → less_all field p (map (λ masks. get_or masks c []) (map f (drop i chosen))) ≡ whole → p ≡ whole
    all_taken_off i p whole ended so_far = ap (λ t. less_all field p (map (λ masks. get_or masks c []) (map f t))) (sym (drop_all i chosen ended)) ∙ so_far
