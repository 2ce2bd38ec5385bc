-- What an AIR declares of itself, and how its counts follow.
use Rattle.std.specs.Prelude.{◌≡◌, ℕ, Bool, true, false, List, [], ◌∷◌, Option, None, Some, length}
use Rattle.std.specs.List.{range_with_len}
use Rattle.stark_air.specs.Layout.{Layout}

-- Rows of `width` values each, one after the other.
pub record Trace (F : Type 0) : Type 0 where
  pub width : ℕ
  pub values : List F

-- The columns of the declared trace; none without one.
abbrev pub trace_width : {F : Type 0} → Option (Trace F) → ℕ
trace_width None = 0
trace_width (Some trace) = trace.width

-- How much of a next row constraints may read: nothing where no column of it is declared, else the whole row.
abbrev pub next_width : List ℕ → ℕ → ℕ
next_width [] width = 0
next_width (column ∷ columns) width = width

-- The counts of a layout are those of what is declared.
pub record IsDeclared {F : Type 0} (layout : Layout) (preprocessed : Option (Trace F)) (periodic : List (List F)) (main_next : List ℕ) (preprocessed_next : List ℕ) : Type 0 where
  pub preprocessed_width : layout.preprocessed ≡ trace_width preprocessed
  pub periodic_columns : layout.periodics ≡ length periodic
  pub main_next_row : layout.main_next ≡ next_width main_next layout.main
  pub preprocessed_next_row : layout.preprocessed_next ≡ next_width preprocessed_next layout.preprocessed

-- All columns of a row where the next row is read, none where it isn't.
abbrev pub read_columns : Bool → ℕ → List ℕ
read_columns true width = range_with_len 0 width
read_columns false width = []

-- Main columns and public values alone.
abbrev pub main_trace_layout : (width public_values : ℕ) (reads_next_row : Bool) → Layout
main_trace_layout width public_values reads_next_row = record { main = width; main_next = next_width (read_columns reads_next_row width) width; preprocessed = 0; preprocessed_next = 0; public_values = public_values; periodics = 0 }

-- Whatever AIR, the counts of its layout are those of what it declares.
abbrev pub AreDeclared : {A F : Type 0} → (A → Layout) → (A → Option (Trace F)) → (A → List (List F)) → (A → List ℕ) → (A → List ℕ) → Type 0
AreDeclared {A = A} layout preprocessed periodic main_next preprocessed_next =
    (air : A) → IsDeclared (layout air) (preprocessed air) (periodic air) (main_next air) (preprocessed_next air)
