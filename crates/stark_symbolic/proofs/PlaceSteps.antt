-- Steps of the loops over symbolic constraints, and over the places of constraints.
use Rattle.std.proofs.Common.{◌≡◌, ℕ, ◌+◌, ◌<◌, ◌≤◌, ◌⊎◌, inl, inr, List, [], ◌∷◌, ◌++◌, Some, map, length, drop, get_or, sym, ◌∙◌, ap, subst, arith, add-one, append-nil}
use Rattle.std.specs.List.{slice_get}
use Rattle.std.proofs.Math.Seq.{drop-cons}
use Rattle.std.proofs.lemmas.Bool.{cases_lt}
use Rattle.std.proofs.lemmas.List.{append_assoc, drop_all, map_push, length_push, get_or_append_left, get_or_push}
use Rattle.std.proofs.lemmas.Option.{slice_get_within, slice_get-get_or, get_or_from_slice_get}
use Rattle.stark_symbolic.specs.Places.{AreCoordinateRows, marked_base_places, marked_extension_places}
use Rattle.stark_symbolic.specs.declared.degree_expression.DegreePair.{DegreePair}
use Rattle.stark_symbolic.specs.declared.degree_builder.ConstraintDegrees.{ConstraintDegrees}
use Rattle.stark_symbolic.specs.declared.degree_builder.ConstraintDegrees.TheVariants.{Base, Extension}

module _ (xs : List ConstraintDegrees) (i : ℕ) (d : ConstraintDegrees) (within : i < length xs) (x : DegreePair) (before after others same base extension : List ℕ) where
  rest : (c : ConstraintDegrees) → get_or xs i d ≡ c → drop i xs ≡ c ∷ drop (i + 1) xs
  rest c read = drop-cons xs i d within ∙ ap (λ (n : ℕ). get_or xs i d ∷ drop n xs) (sym (add-one i)) ∙ ap (λ (e : ConstraintDegrees). e ∷ drop (i + 1) xs) read

  -- The places of the base constraints and of the others, one base constraint further.
  pub one_base_place : get_or xs i d ≡ Base x → after ≡ before ++ i ∷ [] → same ≡ others → before ++ marked_base_places i (drop i xs) ≡ base → others ++ marked_extension_places i (drop i xs) ≡ extension
      → (after ++ marked_base_places (i + 1) (drop (i + 1) xs) ≡ base) × (same ++ marked_extension_places (i + 1) (drop (i + 1) xs) ≡ extension)
  one_base_place is pushed kept so_far rest_so_far =
      let left : drop i xs ≡ Base x ∷ drop (i + 1) xs = rest (Base x) is in (
        ap (λ (l : List ℕ). l ++ marked_base_places (i + 1) (drop (i + 1) xs)) pushed ∙ append_assoc before (i ∷ []) _ ∙ ap (λ (l : List ConstraintDegrees). before ++ marked_base_places i l) (sym left) ∙ so_far,
        ap (λ (l : List ℕ). l ++ marked_extension_places (i + 1) (drop (i + 1) xs)) kept ∙ ap (λ (l : List ConstraintDegrees). others ++ marked_extension_places i l) (sym left) ∙ rest_so_far,
      )

  pub one_extension_place : get_or xs i d ≡ Extension x → after ≡ before ++ i ∷ [] → same ≡ others → others ++ marked_base_places i (drop i xs) ≡ base → before ++ marked_extension_places i (drop i xs) ≡ extension
      → (same ++ marked_base_places (i + 1) (drop (i + 1) xs) ≡ base) × (after ++ marked_extension_places (i + 1) (drop (i + 1) xs) ≡ extension)
  one_extension_place is pushed kept rest_so_far so_far =
      let left : drop i xs ≡ Extension x ∷ drop (i + 1) xs = rest (Extension x) is in (
        ap (λ (l : List ℕ). l ++ marked_base_places (i + 1) (drop (i + 1) xs)) kept ∙ ap (λ (l : List ConstraintDegrees). others ++ marked_base_places i l) (sym left) ∙ rest_so_far,
        ap (λ (l : List ℕ). l ++ marked_extension_places (i + 1) (drop (i + 1) xs)) pushed ∙ append_assoc before (i ∷ []) _ ∙ ap (λ (l : List ConstraintDegrees). before ++ marked_extension_places i l) (sym left) ∙ so_far,
      )

-- The items of a list by another name, one more or as they were.
pub pushed_along : {V : Type 0} (items : V → List ℕ) (v w : V) (before : List ℕ) (i : ℕ) → v ≡ w → items w ≡ before ++ i ∷ [] → items v ≡ before ++ i ∷ []
pushed_along items v w before i same h = ap items same ∙ h

pub kept_along : {V : Type 0} (items : V → List ℕ) (v w : V) → v ≡ w → items v ≡ items w
kept_along items v w same = ap items same

-- One more row of coordinates.
pub one_more_row : {F : Type 0} {E : Type 0} (coordinates : E → List F) (d : ℕ) (values : List E) (rows : List (List F)) (row : List F) → AreCoordinateRows coordinates d values rows → map (λ (c : F). Some c) row ≡ map (λ (x : E). slice_get (coordinates x) d) values → AreCoordinateRows coordinates (d + 1) values (rows ++ row ∷ [])
one_more_row {F} {E} coordinates d values rows row h is = record {
  number = length_push rows row ∙ let e = h.number in omega (arith, e);
  each = λ k r obtained. go k r obtained (cases_lt k (length rows));
} where
  go : (k : ℕ) (r : List F) → slice_get (rows ++ row ∷ []) k ≡ Some r → (k < length rows) ⊎ (length rows ≤ k) → map (λ (c : F). Some c) r ≡ map (λ (x : E). slice_get (coordinates x) k) values
  go k r obtained (inl below) =
      h.each k r (slice_get-get_or rows k r below ∙ ap (λ (x : List F). Some x) (sym (get_or_append_left rows (row ∷ []) r k below) ∙ get_or_from_slice_get (rows ++ row ∷ []) k r r obtained))
  go k r obtained (inr above) =
      let within = slice_get_within (rows ++ row ∷ []) k r obtained in
      let last : k ≡ length rows = omega (arith, length_push rows row) in
      let same : r ≡ row = sym (get_or_from_slice_get (rows ++ row ∷ []) k r r obtained) ∙ get_or_push rows row r k (sym last) in
      ap (λ (l : List F). map (λ (c : F). Some c) l) same ∙ is ∙ ap (λ (n : ℕ). map (λ (x : E). slice_get (coordinates x) n) values) (sym h.number ∙ sym last)

pub one_more_pushed_row : {F : Type 0} {E : Type 0} {V : Type 0} (coordinates : E → List F) (d : ℕ) (values : List E) (items : V → List F) (old new : List V) (row : V) → new ≡ old ++ row ∷ [] → AreCoordinateRows coordinates d values (map items old) → map (λ (c : F). Some c) (items row) ≡ map (λ (x : E). slice_get (coordinates x) d) values → AreCoordinateRows coordinates (d + 1) values (map items new)
one_more_pushed_row coordinates d values items old new row pushed h is =
    subst (AreCoordinateRows coordinates (d + 1) values) (sym (ap (map items) pushed ∙ map_push items old row)) (one_more_row coordinates d values (map items old) (items row) h is)

-- The loops' end: nothing is left.
pub base_places_end : (xs : List ConstraintDegrees) (i : ℕ) (places all : List ℕ) → length xs ≤ i → places ++ marked_base_places i (drop i xs) ≡ all → places ≡ all
base_places_end xs i places all past h = sym (append-nil places) ∙ ap (λ (l : List ConstraintDegrees). places ++ marked_base_places i l) (sym (drop_all i xs past)) ∙ h

pub extension_places_end : (xs : List ConstraintDegrees) (i : ℕ) (places all : List ℕ) → length xs ≤ i → places ++ marked_extension_places i (drop i xs) ≡ all → places ≡ all
extension_places_end xs i places all past h = sym (append-nil places) ∙ ap (λ (l : List ConstraintDegrees). places ++ marked_extension_places i l) (sym (drop_all i xs past)) ∙ h
