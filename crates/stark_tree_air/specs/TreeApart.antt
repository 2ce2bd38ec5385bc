-- The JSON of an AIR whose preprocessed rows may be apart: what it is read as, field by field.
use Rattle.std.specs.Prelude.{ℕ, List, [], ◌∷◌, Option, Result, Ok, codes}
use Rattle.serde_json.specs.Data.{Data}
use Rattle.stark_json.specs.Apart.{joined}
use Rattle.stark_air.specs.Declaration.{Trace}
use Rattle.stark_tree_air.specs.TreeJson.{AirView, ColumnsView, TreeFault, air_object, columns_at, joined_rows, list_reading, number_at, optional, required, required_rows, trace_object, trace_width_at, view_fault, without_fault, ◌>>=◌}

-- where the rows stand in a preprocessed trace
abbrev pub rows_path : List (List ℕ)
rows_path = codes "rows" ∷ []

-- and in an AIR
abbrev pub trace_path : List (List ℕ)
trace_path = codes "preprocessed" ∷ rows_path

module _ {F : Type 0} (element : Data → Option F) (rows : Option (List (List ℕ))) where
  -- the lists under the name `rows`, which may be apart
  abbrev pub lists_apart : Data → Result (List (List F)) TreeFault
  lists_apart d = required_rows element (joined rows_path rows d)

  -- an object of a width and rows
  unfoldable pub trace_apart : Data → Result (Trace F) TreeFault
  trace_apart d = do
    o ← trace_object d
    width ← trace_width_at o
    lists ← lists_apart o
    values ← joined_rows width 0 lists
    Ok (record { width = width; values = values })

  unfoldable pub columns_apart : Data → Result (ColumnsView F) TreeFault
  columns_apart d = do
    width ← required (codes "width") (number_at (codes "width")) d
    public_values ← required (codes "publics") (number_at (codes "publics")) d
    periodic ← required (codes "periodic") (columns_at element) d
    preprocessed ← optional (codes "preprocessed") trace_apart d
    Ok (record { width = width; public_values = public_values; periodic = periodic; preprocessed = preprocessed })

  -- the AIR that an object spells whose rows may be apart, or its first fault
  unfoldable pub air_apart : Data → Result (AirView F) TreeFault
  air_apart d = do
    o ← air_object d
    columns ← columns_apart o
    degree ← optional (codes "max_constraint_degree") (number_at (codes "max_constraint_degree")) o
    count ← optional (codes "num_constraints") (number_at (codes "num_constraints")) o
    list ← list_reading element o
    without_fault element columns degree count list (view_fault columns list)
