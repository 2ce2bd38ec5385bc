-- The rows that a check goes through, and what it says of them.
use Rattle.std.specs.Prelude.{◌≡◌, ℕ, ◌*◌, ◌^◌, ◌≤◌, List, Option, length, map}
use Rattle.std.specs.Vec.{vec_items}
use Rattle.stark_support.specs.Ring.{RingOps}
use Rattle.stark_air.specs.Declaration.{Trace}
use Rattle.stark_air.specs.Layout.{Layout}
use Rattle.stark_air.specs.Tree.{Constraint}
use Rattle.stark_security.specs.ConstraintPolynomial.{AirInstance}
use Rattle.stark_completeness.specs.RowSatisfaction.{TraceRows}
use Rattle.stark_completeness.specs.RowCheck.{base_air, rows_in, trace_rows, values_in}
use Rattle.stark_completeness.specs.declared.check.CheckedTrace.{CheckedTrace}

module _ {F : Type 0} where
  -- The rows that are checked.
  abbrev pub checked_rows : CheckedTrace F → TraceRows F
  checked_rows t = rows_in t.main.values.now t.main.width t.preprocessed.values.now t.preprocessed.width t.public_values.now

  -- The AIR of the constraints, over as many rows.
  abbrev pub checked_air : RingOps F → (F → F) → (ℕ → F) → List (Constraint F) → CheckedTrace F → AirInstance F F
  checked_air ring inverse root constraints t = base_air ring inverse root constraints (map vec_items t.periodic_columns.now) t.log_height

  -- The constraints' values in a row.
  abbrev pub checked_values : RingOps F → (F → F) → (ℕ → F) → List (Constraint F) → CheckedTrace F → ℕ → List F
  checked_values ring inverse root constraints t row = values_in (checked_air ring inverse root constraints t) (checked_rows t) row

  -- The matrices have all rows, as wide as a layout declares, and there are as many public values and periodic columns. What is read of a
  -- next row is no wider than the row.
  pub record FitsLayout (l : Layout) (adicity : ℕ) (t : CheckedTrace F) : Type 0 where
    pub within : t.log_height ≤ adicity
    pub main_width : t.main.width ≡ l.main
    pub main_rows : length t.main.values.now ≡ 2 ^ t.log_height * t.main.width
    pub main_next : l.main_next ≤ l.main
    pub preprocessed_width : t.preprocessed.width ≡ l.preprocessed
    pub preprocessed_rows : length t.preprocessed.values.now ≡ 2 ^ t.log_height * t.preprocessed.width
    pub preprocessed_next : l.preprocessed_next ≤ l.preprocessed
    pub public_values : length t.public_values.now ≡ l.public_values
    pub periodics : length t.periodic_columns.now ≡ l.periodics

  -- The rows are those of a trace and of a preprocessed one, with public values and periodic columns.
  pub record IsGiven (periodic_columns : List (List F)) (trace : Trace F) (preprocessed_trace : Option (Trace F)) (values : List F) (t : CheckedTrace F) : Type 0 where
    pub rows : checked_rows t ≡ trace_rows trace preprocessed_trace values
    pub periodic : map vec_items t.periodic_columns.now ≡ periodic_columns
    pub height : (log_size : ℕ) → length trace.values ≡ 2 ^ log_size * trace.width → t.log_height ≡ log_size
