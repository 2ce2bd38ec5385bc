-- Polynomials that are taken off others place by place, and columns that are masked one after the other.
use Rattle.std.proofs.Common.{◌≡◌, ◌∙◌, ℕ, zero, suc, ◌+◌, ◌<◌, ◌≤◌, List, [], ◌∷◌, ◌++◌, length, map, drop, set, get_or, min, refl, sym, ap, arith, inl, inr, append_assoc}
use Rattle.std.specs.Simd.Lanes.{zip2}
use Rattle.std.proofs.lemmas.List.{append-nil, drop_all}
use Rattle.stark_support.specs.Ring.{RingOps, difference}
use Rattle.stark_support.specs.Polynomial.{polynomial_ring}
use Rattle.stark_support.proofs.Places.{from_place}
use Rattle.stark_clear.specs.Masks.{masked_polynomial}
use Rattle.stark_columns.specs.OpenedFacts.{one_is_done}

module _ {F : Type 0} (ring : RingOps F) where
  -- p less q from place i on
  abbrev pub less_from : ℕ → List F → List F → List F
  less_from zero p q = difference (polynomial_ring ring) p q
  less_from (suc i) [] q = []
  less_from (suc i) (c ∷ p) [] = c ∷ p
  less_from (suc i) (c ∷ p) (d ∷ q) = c ∷ less_from i p q

  nothing_off : (p : List F) → difference (polynomial_ring ring) p [] ≡ p
  nothing_off [] = refl
  nothing_off (c ∷ p) = refl

  -- one place more
  pub one_less : (i : ℕ) (p q : List F) (c d e : F) → i < length q → length q ≤ length p → c ≡ get_or p i c → d ≡ get_or q i d → e ≡ difference ring c d → less_from (suc i) (set p i e) q ≡ less_from i p q
  one_less i p [] c d e h k is_c is_d is = absurd (omega arith)
  one_less i [] (d' ∷ q) c d e h k is_c is_d is = absurd (omega arith)
  one_less zero (c' ∷ p) (d' ∷ q) c d e h k is_c is_d is =
      ap (λ t. t ∷ difference (polynomial_ring ring) p q) (is ∙ ap (λ t. difference ring t d) is_c ∙ ap (difference ring c') is_d)
  one_less (suc i) (c' ∷ p) (d' ∷ q) c d e h k is_c is_d is = ap (λ t. c' ∷ t) (one_less i p q c d e (omega arith) (omega arith) is_c is_d is)

  -- all places
  pub all_off : (i : ℕ) (p q : List F) → length q ≤ i → less_from i p q ≡ p
  all_off zero p [] h = nothing_off p
  all_off zero p (d ∷ q) h = absurd (omega arith)
  all_off (suc i) [] q h = refl
  all_off (suc i) (c ∷ p) [] h = refl
  all_off (suc i) (c ∷ p) (d ∷ q) h = ap (λ t. c ∷ t) (all_off i p q (omega arith))

-- What is taken off leaves the length.
pub off_length : {F : Type 0} (ring : RingOps F) (p q : List F) → length q ≤ length p → length (difference (polynomial_ring ring) p q) ≡ length p
off_length ring [] [] h = refl
off_length ring [] (d ∷ q) h = absurd (omega arith)
off_length ring (c ∷ p) [] h = refl
off_length ring (c ∷ p) (d ∷ q) h = ap suc (off_length ring p q (omega arith))

module _ {A B C V W : Type 0} (f : V → A) (g : W → B) (h : A → B → C) (xs : List V) (ys : List W) (i : ℕ) where
  -- one more of two lists that are joined place by place
  pub one_more_joined : (x : V) (y : W) (done after whole : List C) (z : C) → i < length xs → i < length ys → x ≡ get_or xs i x → y ≡ get_or ys i y → z ≡ h (f x) (g y) → after ≡ done ++ z ∷ []
      → done ++ zip2 h (map f (drop i xs)) (map g (drop i ys)) ≡ whole → after ++ zip2 h (map f (drop (i + 1) xs)) (map g (drop (i + 1) ys)) ≡ whole
  one_more_joined x y done after whole z in_xs in_ys is_x is_y is pushed so_far =
      ap (λ t. t ++ zip2 h (map f (drop (i + 1) xs)) (map g (drop (i + 1) ys))) (pushed ∙ ap (λ t. done ++ t ∷ []) is)
      ∙ append_assoc done (h (f x) (g y) ∷ []) (zip2 h (map f (drop (i + 1) xs)) (map g (drop (i + 1) ys)))
      ∙ ap (λ t. done ++ zip2 h (f x ∷ map f (drop (i + 1) xs)) (map g t)) (sym (from_place ys i (i + 1) y refl in_ys is_y))
      ∙ ap (λ t. done ++ zip2 h (map f t) (map g (drop i ys))) (sym (from_place xs i (i + 1) x refl in_xs is_x)) ∙ so_far

  none_to_join : (left : List A) → zip2 h left [] ≡ []
  none_to_join [] = refl
  none_to_join (a ∷ left) = refl

  pub all_joined : (done whole : List C) → min (length xs) (length ys) ≤ i → done ++ zip2 h (map f (drop i xs)) (map g (drop i ys)) ≡ whole → done ≡ whole
  all_joined done whole ended so_far =
      let none : zip2 h (map f (drop i xs)) (map g (drop i ys)) ≡ [] = elim (one_is_done i (length xs) (length ys) ended) [
        | inl w ↦ ap (λ t. zip2 h (map f t) (map g (drop i ys))) (drop_all i xs w)
        | inr w ↦ ap (λ t. zip2 h (map f (drop i xs)) (map g t)) (drop_all i ys w) ∙ none_to_join (map f (drop i xs))
      ] in
      sym (append-nil done) ∙ ap (λ t. done ++ t) (sym none) ∙ so_far

-- Masked columns, from what is computed of them.
pub joined_columns : {F V : Type 0} (ring : RingOps F) (list : V → List F) (columns : List (List F)) (seen plain seen_masks masks : List V) (numbers lists : List (List F)) (scale wanted : F)
    → columns ≡ zip2 (masked_polynomial ring scale) (map list seen) (map list seen_masks) → seen ≡ plain → seen_masks ≡ masks → map list masks ≡ numbers → numbers ≡ lists → scale ≡ wanted
    → columns ≡ zip2 (masked_polynomial ring wanted) (map list plain) lists
joined_columns ring list columns seen plain seen_masks masks numbers lists scale wanted are is_plain is_masks number same one =
    are ∙ ap (λ t. zip2 (masked_polynomial ring scale) (map list t) (map list seen_masks)) is_plain
    ∙ ap (λ t. zip2 (masked_polynomial ring scale) (map list plain) t) (ap (map list) is_masks ∙ number ∙ same)
    ∙ ap (λ s. zip2 (masked_polynomial ring s) (map list plain) lists) one
