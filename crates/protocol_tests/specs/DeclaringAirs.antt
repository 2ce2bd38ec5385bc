-- What a counter with declarations of every kind declares, and its constraints.
use Rattle.std.specs.Prelude.{ℕ, Bool, true, false, List, [], ◌∷◌, Option, None, Some, length, refl}
use Rattle.std.proofs.Common.{arith}
use Rattle.stark_air.specs.Declaration.{IsDeclared, Trace, next_width}
use Rattle.stark_air.specs.Layout.{Layout, LeavesWithin}
use Rattle.stark_air.specs.Tree.{Constraint}
use Rattle.stark_samples.specs.Samples.{counter_constraints}

-- The first column, or none.
abbrev pub column_if : Bool → List ℕ
column_if true = 0 ∷ []
column_if false = []

-- A preprocessed trace of so many columns, or none. Nothing reads its values.
abbrev pub trace_of_width : {F : Type 0} → Option ℕ → Option (Trace F)
trace_of_width (Some width) = Some (record { width = width; values = [] })
trace_of_width None = None

abbrev pub width_or_none : Option ℕ → ℕ
width_or_none (Some width) = width
width_or_none None = 0

-- One main column and one public value, whether the next main row is read, how many preprocessed columns there are, if there is such
-- a trace, and whether their next row is read, and how many periodic columns there are.
abbrev pub declaring_layout : Bool → Option ℕ → Bool → ℕ → Layout
declaring_layout next preprocessed preprocessed_next periodics = record { main = 1; main_next = next_width (column_if next) 1; preprocessed = width_or_none preprocessed; preprocessed_next = next_width (column_if preprocessed_next) (width_or_none preprocessed); public_values = 1; periodics = periodics }

pub declaring : {F : Type 0} (next : Bool) (preprocessed : Option ℕ) (preprocessed_next : Bool) (periodic : List (List F)) → IsDeclared (declaring_layout next preprocessed preprocessed_next (length periodic)) (trace_of_width preprocessed) periodic (column_if next) (column_if preprocessed_next)
declaring next (Some width) preprocessed_next periodic = record { preprocessed_width = refl; periodic_columns = refl; main_next_row = refl; preprocessed_next_row = refl }
declaring next None preprocessed_next periodic = record { preprocessed_width = refl; periodic_columns = refl; main_next_row = refl; preprocessed_next_row = refl }

-- The counter's where the next row is read, else none.
abbrev pub counting_if : {F : Type 0} → F → Bool → List (Constraint F)
counting_if one true = counter_constraints one
counting_if one false = []

pub counting_within : (F : Type 0) (one : F) (next : Bool) (preprocessed : Option ℕ) (preprocessed_next : Bool) (periodics : ℕ) → LeavesWithin {F = F} (declaring_layout next preprocessed preprocessed_next periodics) (counting_if one next)
counting_within F one true preprocessed preprocessed_next periodics = ((tt, (omega arith, omega arith)), ((tt, ((omega arith, omega arith), tt)), tt))
counting_within F one false preprocessed preprocessed_next periodics = tt
