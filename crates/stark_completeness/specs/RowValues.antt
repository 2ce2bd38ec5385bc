-- The values of an AIR's constraints in the rows of a trace, one row after the other.
use Rattle.std.specs.Prelude.{◌≡◌, ℕ, ◌+◌, ◌*◌, ◌^◌, ◌<◌, List, Option, length, slice_range}
use Rattle.stark_support.specs.Ring.{RingOps}
use Rattle.stark_air.specs.Declaration.{Trace}
use Rattle.stark_air.specs.Tree.{Constraint}
use Rattle.stark_security.specs.ConstraintPolynomial.{AirInstance, height}
use Rattle.stark_completeness.specs.RowSatisfaction.{TraceRows}
use Rattle.stark_completeness.specs.RowCheck.{base_air, trace_rows, values_in}

module _ {F E : Type 0} (i : AirInstance F E) (rows : TraceRows F) where
  -- Of the first rows, this many.
  pub record AreValuesBefore (count : ℕ) (values : List F) : Type 0 where
    pub number : length values ≡ count * length i.constraints
    pub in_row : (k : ℕ) → k < count → slice_range values (k * length i.constraints) (k * length i.constraints + length i.constraints) ≡ values_in i rows k

  abbrev pub AreRowValues : List F → Type 0
  AreRowValues values = AreValuesBefore (height i) values

-- Of all rows of a trace, beside a preprocessed one.
abbrev pub AreValuesOfTrace : {F : Type 0} → RingOps F → (F → F) → (ℕ → F) → List (Constraint F) → List (List F) → Trace F → Option (Trace F) → List F → List F → Type 0
AreValuesOfTrace ring inverse root constraints periodic trace preprocessed public_values values = (log_size : ℕ) → length trace.values ≡ 2 ^ log_size * trace.width
    → AreRowValues (base_air ring inverse root constraints periodic log_size) (trace_rows trace preprocessed public_values) values
