-- How large an AIR may be.
use Rattle.std.specs.Prelude.{◌≡◌, ℕ, ◌+◌, ◌-◌, ◌^◌, ◌≤◌, min, Bool, true, false, if◌then◌else◌, nat_lt, List, length, map, Option, None, Some, Result, Ok, Err}
use Rattle.std.specs.List.{sum_by}
use Rattle.std.specs.Option.{option_or}
use Rattle.std.specs.declared.vec.Vec.{Vec}
use Rattle.stark_air.specs.Declaration.{Trace, trace_width}
use Rattle.stark_tree_air.specs.TreeJson.{AirView, ColumnsView, ListView, air_view}
use Rattle.stark_tree_air.specs.declared.air.TreeAir.{TreeAir}
use Rattle.stark_statement.specs.Configuration.{FriNumbers}
use Rattle.stark_statement.specs.declared.limits.AirLimits.{AirLimits}
use Rattle.stark_statement.specs.declared.limits.AirTooLarge.{AirTooLarge}
use Rattle.stark_statement.specs.declared.limits.AirTooLarge.TheVariants.{Cells, Columns, Constants, Constraints, Nodes, PublicValues}

abbrev pub default_limits : AirLimits
default_limits = record { columns = 65536; public_values = 65536; cells = 1048576; constants = 131072; nodes = 131072; constraints = 32768 }

-- As many values of fixed columns as are 2 ^ 24 where each is extended to 2 ^ log_blowup, and no more than by default.
abbrev pub cells_extended : ℕ → ℕ
cells_extended log_blowup = if nat_lt 24 log_blowup then 0 else min (2 ^ (24 - log_blowup)) default_limits.cells

-- the limits under a scheme, by FRI's numbers or in the clear
abbrev pub limits_under : Option FriNumbers → AirLimits
limits_under (Some numbers) = record default_limits { cells = cells_extended numbers.log_blowup }
limits_under None = default_limits

-- ---- how much an AIR has

abbrev pub view_of : {F : Type 0} → TreeAir F → AirView F
view_of air = air_view air.declaration air.list

abbrev pub items_of : {F A : Type 0} → List (Vec F A) → List (List F)
items_of lists = map (λ list. list.items) lists

-- the members of lists
abbrev pub lengths_of : {F : Type 0} → List (List F) → ℕ
lengths_of lists = sum_by length lists

abbrev pub trace_cells : {F : Type 0} → Option (Trace F) → ℕ
trace_cells None = 0
trace_cells (Some trace) = length trace.values

module _ {F : Type 0} (columns : ColumnsView F) where
  -- main and preprocessed columns
  abbrev pub width_of : ℕ
  width_of = columns.width + trace_width columns.preprocessed

  -- values of periodic and preprocessed columns
  abbrev pub cells_of : ℕ
  cells_of = lengths_of columns.periodic + trace_cells columns.preprocessed

-- ---- limits

-- An AIR has no more than this of anything.
pub record IsWithin {F : Type 0} (limits : AirLimits) (air : AirView F) : Type 0 where
  pub columns : width_of air.columns ≤ limits.columns
  pub public_values : air.columns.public_values ≤ limits.public_values
  pub cells : cells_of air.columns ≤ limits.cells
  pub constants : length air.list.constants ≤ limits.constants
  pub nodes : length air.list.nodes ≤ limits.nodes
  pub constraints : length air.list.constraints ≤ limits.constraints

-- The answer is the error that was found, if one was.
abbrev pub Tells : Option AirTooLarge → Result (Unit {0}) AirTooLarge → Type 0
Tells fault (Ok nothing) = fault ≡ None
Tells fault (Err error) = fault ≡ Some error

-- The error, where a limit is passed.
abbrev pub passed_if : Bool → AirTooLarge → Option AirTooLarge
passed_if true error = Some error
passed_if false error = None

module _ {F : Type 0} (limits : AirLimits) where
  abbrev pub columns_passed : ColumnsView F → Option AirTooLarge
  columns_passed columns =
      option_or (passed_if (nat_lt limits.columns (width_of columns)) (Columns columns.width (trace_width columns.preprocessed) limits.columns))
      (option_or (passed_if (nat_lt limits.public_values columns.public_values) (PublicValues columns.public_values limits.public_values))
      (passed_if (nat_lt limits.cells (cells_of columns)) (Cells limits.cells)))

  abbrev pub list_passed : ListView F → Option AirTooLarge
  list_passed list =
      option_or (passed_if (nat_lt limits.constants (length list.constants)) (Constants (length list.constants) limits.constants))
      (option_or (passed_if (nat_lt limits.nodes (length list.nodes)) (Nodes (length list.nodes) limits.nodes))
      (passed_if (nat_lt limits.constraints (length list.constraints)) (Constraints (length list.constraints) limits.constraints)))

  -- the first limit that an AIR passes
  abbrev pub first_passed : AirView F → Option AirTooLarge
  first_passed air = option_or (columns_passed air.columns) (list_passed air.list)
