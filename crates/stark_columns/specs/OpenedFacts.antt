-- Opened values, one matrix and one row after the other.
use Rattle.std.specs.Prelude.{◌≡◌, ◌⊎◌, ℕ, ◌+◌, ◌<◌, ◌≤◌, min, List, [], ◌∷◌, ◌++◌, map, length, refl}
use Rattle.std.specs.List.{flat_map}
use Rattle.std.proofs.Common.{inl, inr, sym, ap, ◌∙◌, arith, append_assoc, drop, get_or}
use Rattle.std.proofs.lemmas.List.{append-nil, drop_all}
use Rattle.std.proofs.lemmas.List.Concat.{flat_map-cons}
use Rattle.stark_support.specs.Ring.{RingOps}
use Rattle.stark_support.specs.Scheme.{CommittedMatrix, row_at, true_matrices}
use Rattle.stark_support.proofs.Places.{from_place}
use Rattle.stark_columns.specs.Columns.{columns_of}
use Rattle.stark_columns.specs.Opened.{matrices_at}

-- Where all places of both lists are past the end of one, that one is done.
pub one_is_done : (i a b : ℕ) → min a b ≤ i → (a ≤ i) ⊎ (b ≤ i)
one_is_done i a b h = grind arith

module _ {F E A C : Type 0} (ring : RingOps E) (embed : F → E) (f : A → List (List F)) (g : C → List E) (xs : List A) (ys : List C) (i : ℕ) where
  pub one_more_matrix : (x : A) (y : C) (done after : List (List (List E))) (rows : List (List E)) (whole : List (List (List E))) → i < length xs → i < length ys → x ≡ get_or xs i x → y ≡ get_or ys i y
      → rows ≡ map (row_at ring embed (f x)) (g y) → after ≡ done ++ rows ∷ []
      → done ++ matrices_at ring embed (map f (drop i xs)) (map g (drop i ys)) ≡ whole → after ++ matrices_at ring embed (map f (drop (i + 1) xs)) (map g (drop (i + 1) ys)) ≡ whole
  unfolding matrices_at
  one_more_matrix x y done after rows whole h k is_x is_y are pushed so_far =
      ap (λ t. t ++ matrices_at ring embed (map f (drop (i + 1) xs)) (map g (drop (i + 1) ys))) (pushed ∙ ap (λ r. done ++ r ∷ []) are)
      ∙ append_assoc done (map (row_at ring embed (f x)) (g y) ∷ []) (matrices_at ring embed (map f (drop (i + 1) xs)) (map g (drop (i + 1) ys)))
      ∙ ap (λ t. done ++ matrices_at ring embed (f x ∷ map f (drop (i + 1) xs)) (map g t)) (sym (from_place ys i (i + 1) y refl k is_y))
      ∙ ap (λ t. done ++ matrices_at ring embed (map f t) (map g (drop i ys))) (sym (from_place xs i (i + 1) x refl h is_x)) ∙ so_far

  none_of_matrices : length xs ≤ i → matrices_at ring embed (map f (drop i xs)) (map g (drop i ys)) ≡ []
  unfolding matrices_at
  none_of_matrices h = ap (λ t. matrices_at ring embed (map f t) (map g (drop i ys))) (drop_all i xs h)

  no_points : (matrices : List (List (List F))) → matrices_at ring embed matrices [] ≡ []
  unfolding matrices_at
  no_points [] = refl
  no_points (m ∷ matrices) = refl

  none_of_points : length ys ≤ i → matrices_at ring embed (map f (drop i xs)) (map g (drop i ys)) ≡ []
  none_of_points h = ap (λ t. matrices_at ring embed (map f (drop i xs)) (map g t)) (drop_all i ys h) ∙ no_points (map f (drop i xs))

  pub all_matrices : (done whole : List (List (List E))) → min (length xs) (length ys) ≤ i → done ++ matrices_at ring embed (map f (drop i xs)) (map g (drop i ys)) ≡ whole → done ≡ whole
  all_matrices done whole h so_far =
      let none : matrices_at ring embed (map f (drop i xs)) (map g (drop i ys)) ≡ [] = elim (one_is_done i (length xs) (length ys) h) [
        | inl w ↦ none_of_matrices w
        | inr w ↦ none_of_points w
      ] in
      sym (append-nil done) ∙ ap (λ t. done ++ t) (sym none) ∙ so_far

pub one_more_row : {K : Type 0} (f : K → List K) (xs : List K) (i : ℕ) (x : K) (done after whole : List K) → i < length xs → x ≡ get_or xs i x → after ≡ done ++ f x
    → done ++ flat_map f (drop i xs) ≡ whole → after ++ flat_map f (drop (i + 1) xs) ≡ whole
one_more_row f xs i x done after whole h is pushed so_far =
    ap (λ t. t ++ flat_map f (drop (i + 1) xs)) pushed ∙ append_assoc done (f x) (flat_map f (drop (i + 1) xs)) ∙ ap (λ t. done ++ t) (sym (flat_map-cons f x (drop (i + 1) xs)))
    ∙ ap (λ t. done ++ flat_map f t) (sym (from_place xs i (i + 1) x refl h is)) ∙ so_far

-- What is opened of matrices' columns are the true values.
module _ {F E : Type 0} (ring : RingOps E) (embed : F → E) where
  pub opened_are_true : (matrices : List (CommittedMatrix F)) (points : List (List E)) → matrices_at ring embed (columns_of matrices) points ≡ true_matrices ring embed matrices points
  unfolding matrices_at
  opened_are_true [] points = refl
  opened_are_true (m ∷ matrices) [] = refl
  opened_are_true (m ∷ matrices) (xs ∷ points) = ap (λ t. map (row_at ring embed m.columns) xs ∷ t) (opened_are_true matrices points)
