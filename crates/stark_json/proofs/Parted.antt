-- Lists in one list, with their lengths.
use Rattle.std.proofs.Common.{◌≡◌, ◌∙◌, ℕ, ◌+◌, ◌<◌, List, [], ◌∷◌, ◌++◌, Option, None, Some, option_map, drop, get_or, length, map, take, refl, sym, ap, ap₂, append-nil, append_assoc}
use Rattle.std.proofs.Math.Seq.{take-append_seam, drop-append_seam}
use Rattle.std.proofs.lemmas.Grind.{flat_map-append}
use Rattle.std.proofs.lemmas.List.{drop_more, map-append}
use Rattle.std.specs.List.{flat_map}
use Rattle.serde_json.specs.Data.{Data}
use Rattle.serde_json.specs.View.{items_of}
use Rattle.stark_support.specs.Json.{each_at}
use Rattle.stark_support.proofs.Readings.{with_front}
use Rattle.stark_json.specs.Apart.{parted, row_data}

-- These are the numbers of the rows, and how many each has.
pub record AreParted (numbers lengths : List ℕ) (rows : List (List ℕ)) : Type 0 where
  pub numbers_are : numbers ≡ flat_map (λ row. row) rows
  pub lengths_are : lengths ≡ map length rows

back : (rows : List (List ℕ)) → parted (map length rows) (flat_map (λ row. row) rows) ≡ rows
back [] = refl
back (row ∷ rows) =
    let rest = flat_map (λ row. row) rows in
    ap₂ (λ first more. first ∷ more) (take-append_seam row rest) (ap (parted (map length rows)) (drop-append_seam row rest) ∙ back rows)

pub rows_parted : (numbers lengths : List ℕ) (rows : List (List ℕ)) → AreParted numbers lengths rows → parted lengths numbers ≡ rows
rows_parted numbers lengths rows h = ap₂ parted h.lengths_are h.numbers_are ∙ back rows

pub row_behind : (numbers more lengths longer : List ℕ) (n : ℕ) (row : List ℕ) (rows : List (List ℕ)) → AreParted numbers lengths rows → more ≡ numbers ++ row → longer ≡ lengths ++ n ∷ [] → n ≡ length row
    → AreParted more longer (rows ++ row ∷ [])
row_behind numbers more lengths longer n row rows h added grown is = record {
  numbers_are = added ∙ ap (λ ns. ns ++ row) h.numbers_are ∙ ap (λ ns. flat_map (λ r. r) rows ++ ns) (sym (append-nil row)) ∙ sym (flat_map-append (λ r. r) rows (row ∷ []));
  lengths_are = grown ∙ ap₂ (λ ls m. ls ++ m ∷ []) h.lengths_are is ∙ sym (map-append length rows (row ∷ []));
}

-- the first list of numbers is read, and the others are left
pub first_parted : (lengths numbers : List ℕ) (i d : ℕ) → i < length lengths → parted (drop i lengths) numbers ≡ take (get_or lengths i d) numbers ∷ parted (drop (i + 1) lengths) (drop (get_or lengths i d) numbers)
first_parted lengths numbers i d within = ap (λ ls. parted ls numbers) (drop_more lengths i d within)

module _ {F : Type 0} (each : Data → Option (List F)) (front : List (List F)) where
  one_more : (x : List F) (o : Option (List (List F))) → with_front front (option_map (λ xs. x ∷ xs) o) ≡ with_front (front ++ x ∷ []) o
  one_more x None = refl
  one_more x (Some xs) = ap (λ ys. Some ys) (sym (append_assoc front (x ∷ []) xs))

  pub list_taken : (x : List F) (row : List ℕ) (rows : List (List ℕ)) → each (row_data row) ≡ Some x
      → with_front front (each_at each (items_of (map row_data (row ∷ rows)))) ≡ with_front (front ++ x ∷ []) (each_at each (items_of (map row_data rows)))
  list_taken x row rows e = rw e (one_more x (each_at each (items_of (map row_data rows))))

  pub list_refused : (row : List ℕ) (rows : List (List ℕ)) → each (row_data row) ≡ None → with_front front (each_at each (items_of (map row_data (row ∷ rows)))) ≡ None
  list_refused row rows e = rw e refl
