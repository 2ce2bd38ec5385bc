-- The rows of a trace, as a JSON text spells them.
use Rattle.std.specs.Prelude.{◌≡◌, ℕ, ◌==◌, Bool, true, false, List, [], ◌∷◌, length, Option, None, Some}
use Rattle.std.specs.List.{flat_map, list_all}
use Rattle.serde_json.specs.Data.{Data}
use Rattle.stark_support.specs.Json.{◌>>=◌, array_at, json_of}
use Rattle.stark_trace_json.specs.declared.rows.TraceRows.{TraceRows}

-- the rows that a text spells: an array of arrays of elements
unfoldable pub rows_in : {F : Type 0} → (Data → Option F) → List ℕ → Option (List (List F))
rows_in element bytes = json_of bytes >>= array_at (array_at element)

-- the length of the first row, or 0
abbrev pub width_of : {F : Type 0} → List (List F) → ℕ
width_of [] = 0
width_of (row ∷ rows) = length row

-- whether all rows are of one length
abbrev pub are_even : {F : Type 0} → List (List F) → Bool
are_even rows = list_all (λ row. length row == width_of rows) rows

-- These are the values of the rows, one row after the other, the number of the rows and their one length.
pub record AreRows {F : Type 0} (listed : List F) (count length_of_each : ℕ) (rows : List (List F)) : Type 0 where
  pub values : listed ≡ flat_map (λ row. row) rows
  pub height : count ≡ length rows
  pub width : length_of_each ≡ width_of rows
  pub even : are_even rows ≡ true

-- What was read are these rows.
abbrev pub HasRows : {F : Type 0} → TraceRows F → List (List F) → Type 0
HasRows table rows = AreRows table.values.items table.height table.width rows

-- The text spells rows of one length, and these are they.
abbrev pub AreRowsIn : {F : Type 0} → TraceRows F → Option (List (List F)) → Type 0
AreRowsIn {F} table reading = (rows : List (List F)) × (reading ≡ Some rows) × HasRows table rows

-- A text spells no rows, or rows of different lengths.
abbrev pub SpellsNoTrace : {F : Type 0} → Option (List (List F)) → Type 0
SpellsNoTrace None = Unit {0}
SpellsNoTrace (Some rows) = are_even rows ≡ false
