-- The first fault of a text as the rows of a trace.
use Rattle.std.specs.Prelude.{◌≡◌, ◌≢◌, ◌==◌, ℕ, true, List, length, take, Option, None, Some, Result, Ok, Err, slice_get}
use Rattle.std.specs.List.{list_all}
use Rattle.serde_json.specs.Data.{Data}
use Rattle.serde_json.specs.Find.{as_array}
use Rattle.serde_json.specs.View.{items_of, view}
use Rattle.serde_json.specs.declared.value.Value.{Value}
use Rattle.stark_support.specs.Json.{array_at, each_at, json_of}
use Rattle.stark_trace_json.specs.Rows.{AreRowsIn, HasRows, rows_in, width_of}
use Rattle.stark_trace_json.specs.declared.rows.TraceRows.{TraceRows}
use Rattle.stark_trace_json.specs.declared.fault.RowsFault.{RowsFault}
use Rattle.stark_trace_json.specs.declared.fault.RowsFault.TheVariants.{NoJson, NoArray, NoRow, NoElement, Uneven, OutOfMemory}

-- Of the values that an array has, the one at this place is the first that isn't read: those before it are read.
pub record IsFirstUnread {A : Type 0} (each : Data → Option A) (Fault : Data → Type 0) (ds : List Data) (place : ℕ) : Type 0 where
  pub before : List A
  pub here : Data
  pub read : each_at each (items_of (take place ds)) ≡ Some before
  pub stands : slice_get ds place ≡ Some here
  pub fault : Fault here

-- Of rows the one at this place is the first that is not as long as the first of all.
pub record IsFirstUneven {F : Type 0} (rows : List (List F)) (place expected got : ℕ) : Type 0 where
  pub here : List F
  pub stands : slice_get rows place ≡ Some here
  pub length_here : length here ≡ got
  pub wanted : width_of rows ≡ expected
  pub other : got ≢ expected
  pub before : list_all (λ row. length row == expected) (take place rows) ≡ true

-- A value is no array.
abbrev pub IsNoArray : Data → Type 0
IsNoArray d = as_array d ≡ None

-- These are the items of an array.
abbrev pub AreItems : List Data → Data → Type 0
AreItems ds d = as_array d ≡ Some (items_of ds)

-- What was read is what reading gives, or this fault is the first.
abbrev pub ReadsOr : {X Y : Type 0} → (X → Y) → Option Y → (RowsFault → Type 0) → Result X RowsFault → Type 0
ReadsOr of_read reading IsFault (Ok x) = reading ≡ Some (of_read x)
ReadsOr of_read reading IsFault (Err fault) = IsFault fault

-- The first fault of lists as rows of one length: none of them is wanting.
abbrev pub IsFaultOfLengths : {F : Type 0} → List (List F) → RowsFault → Type 0
IsFaultOfLengths rows (Uneven row expected got) = IsFirstUneven rows row expected got
IsFaultOfLengths rows OutOfMemory = Unit {0}
IsFaultOfLengths rows NoJson = ⊥
IsFaultOfLengths rows NoArray = ⊥
IsFaultOfLengths rows (NoRow row) = ⊥
IsFaultOfLengths rows (NoElement row column value) = ⊥

-- Rows of one length, or the first fault.
abbrev pub GivesEven : {F : Type 0} → List (List F) → Result (TraceRows F) RowsFault → Type 0
GivesEven rows (Ok table) = HasRows table rows
GivesEven rows (Err fault) = IsFaultOfLengths rows fault

-- the rows that values spell
abbrev pub rows_at : {F : Type 0} → (Data → Option F) → List Data → Option (List (List F))
rows_at element ds = each_at (array_at element) (items_of ds)

module _ {F : Type 0} (element : Data → Option F) where
  -- A value is this, which is no element.
  abbrev pub IsNoElement : Value → Data → Type 0
  IsNoElement value d = (d ≡ view value) × (element d ≡ None)

  -- A value is an array, of whose items the first that is no element stands in this column.
  abbrev pub HasNoElement : ℕ → Value → Data → Type 0
  HasNoElement column value d = (ds : List Data) × AreItems ds d × IsFirstUnread element (IsNoElement value) ds column

  -- the first fault of the items of a row
  abbrev pub IsFaultOfElements : ℕ → List Data → RowsFault → Type 0
  IsFaultOfElements row ds (NoElement at column value) = (at ≡ row) × IsFirstUnread element (IsNoElement value) ds column
  IsFaultOfElements row ds OutOfMemory = Unit {0}
  IsFaultOfElements row ds NoJson = ⊥
  IsFaultOfElements row ds NoArray = ⊥
  IsFaultOfElements row ds (NoRow at) = ⊥
  IsFaultOfElements row ds (Uneven at expected got) = ⊥

  -- the first fault of a value as this row
  abbrev pub IsFaultOfRow : ℕ → Data → RowsFault → Type 0
  IsFaultOfRow row d (NoRow at) = (at ≡ row) × IsNoArray d
  IsFaultOfRow row d (NoElement at column value) = (at ≡ row) × HasNoElement column value d
  IsFaultOfRow row d OutOfMemory = Unit {0}
  IsFaultOfRow row d NoJson = ⊥
  IsFaultOfRow row d NoArray = ⊥
  IsFaultOfRow row d (Uneven at expected got) = ⊥

  -- the first fault of values as rows of elements
  abbrev pub IsFaultOfItems : List Data → RowsFault → Type 0
  IsFaultOfItems ds (NoRow row) = IsFirstUnread (array_at element) IsNoArray ds row
  IsFaultOfItems ds (NoElement row column value) = IsFirstUnread (array_at element) (HasNoElement column value) ds row
  IsFaultOfItems ds OutOfMemory = Unit {0}
  IsFaultOfItems ds NoJson = ⊥
  IsFaultOfItems ds NoArray = ⊥
  IsFaultOfItems ds (Uneven row expected got) = ⊥

  -- A text spells an array, of whose items this holds.
  abbrev pub SpellsItems : List ℕ → (List Data → Type 0) → Type 0
  SpellsItems bytes Holds = (d : Data) × (json_of bytes ≡ Some d) × (ds : List Data) × AreItems ds d × Holds ds

  -- the first fault of a text as rows of elements, all of one length
  abbrev pub IsFaultOfText : List ℕ → RowsFault → Type 0
  IsFaultOfText bytes NoJson = json_of bytes ≡ None
  IsFaultOfText bytes NoArray = (d : Data) × (json_of bytes ≡ Some d) × IsNoArray d
  IsFaultOfText bytes (NoRow row) = SpellsItems bytes (λ ds. IsFaultOfItems ds (NoRow row))
  IsFaultOfText bytes (NoElement row column value) = SpellsItems bytes (λ ds. IsFaultOfItems ds (NoElement row column value))
  IsFaultOfText bytes (Uneven row expected got) = (rows : List (List F)) × (rows_in element bytes ≡ Some rows) × IsFirstUneven rows row expected got
  IsFaultOfText bytes OutOfMemory = Unit {0}

  -- The rows that a text spells, of one length, or its first fault.
  abbrev pub GivesRows : List ℕ → Result (TraceRows F) RowsFault → Type 0
  GivesRows bytes (Ok table) = AreRowsIn table (rows_in element bytes)
  GivesRows bytes (Err fault) = IsFaultOfText bytes fault
