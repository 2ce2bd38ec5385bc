-- What a check of a trace's rows finds.
use Rattle.std.specs.Option.{option_copied}
use Rattle.std.specs.Prelude.{◌≡◌, ◌≢◌, ℕ, ◌*◌, ◌%◌, ◌^◌, ◌<◌, ◌≤◌, IfErr, List, [], Option, None, Result, Some, length, get_or, take, option_map}
use Rattle.std.specs.List.{AllByRecursion, slice_get}
use Rattle.stark_support.specs.Ring.{RingOps}
use Rattle.stark_support.specs.Operations.{ring_operations}
use Rattle.stark_support.specs.Scheme.{matrix_row}
use Rattle.stark_support.specs.declared.matrix.RowMajorMatrix.{RowMajorMatrix}
use Rattle.stark_air.specs.Declaration.{Trace}
use Rattle.stark_air.specs.Layout.{Layout}
use Rattle.stark_air.specs.Tree.{Constraint}
use Rattle.stark_air.specs.Value.{constraint_values}
use Rattle.stark_quotient.specs.PointwiseQuotient.{HasShape, matrix_or_empty}
use Rattle.stark_security.specs.ConstraintPolynomial.{AirInstance, height}
use Rattle.stark_completeness.specs.RowSatisfaction.{TraceRows, HoldsInEachRow, HoldsInRow, leaves_in_row}
use Rattle.stark_completeness.specs.declared.violation.ConstraintViolation.{ConstraintViolation}
use Rattle.stark_completeness.specs.declared.violation.ConstraintCheckError.{ConstraintCheckError}
use Rattle.stark_completeness.specs.declared.violation.ConstraintCheckError.TheVariants.{OutOfMemory, Violation}
use Rattle.std.specs.Borrow.{Bor}

-- What a matrix is, without the law of its rows.
abbrev pub trace_of : {F : Type 0} → RowMajorMatrix F → Trace F
trace_of m = record { width = m.width; values = m.values.items }

-- An AIR of these constraints and periodic columns over 2 ^ log_size rows; the extension, of which rows say nothing, is the base
-- field.
abbrev pub base_air : {F : Type 0} → RingOps F → (F → F) → (ℕ → F) → List (Constraint F) → List (List F) → ℕ → AirInstance F F
base_air ring inverse root constraints periodic log_size = record {
  base = ring;
  base_inverse = inverse;
  ring = ring;
  inverse = inverse;
  embed = λ k. k;
  basis = [];
  generator = root log_size;
  log_size = log_size;
  constraints = constraints;
  periodic = periodic;
}

-- The rows of two matrices, each with its values and its width, and public values.
abbrev pub rows_in : {F : Type 0} → List F → ℕ → List F → ℕ → List F → TraceRows F
rows_in values width preprocessed preprocessed_width public_values = record { main = matrix_row values width; preprocessed = matrix_row preprocessed preprocessed_width; public_values = public_values }

-- The rows of a trace, those of a preprocessed one, and the public values.
abbrev pub trace_rows : {F : Type 0} → Trace F → Option (Trace F) → List F → TraceRows F
trace_rows trace preprocessed public_values = rows_in trace.values trace.width (matrix_or_empty preprocessed).values (matrix_or_empty preprocessed).width public_values

-- A trace of 2 ^ log_size rows, a preprocessed one beside it, and public values, as a layout has them.
pub record AreLaidOut {F : Type 0} (l : Layout) (adicity : ℕ) (log_size : ℕ) (trace : Trace F) (preprocessed_trace : Option (Trace F)) (public_values : List F) : Type 0 where
  pub within : log_size ≤ adicity
  pub main : HasShape l.main (2 ^ log_size) trace
  pub preprocessed : HasShape l.preprocessed (2 ^ log_size) (matrix_or_empty preprocessed_trace)
  pub number : length public_values ≡ l.public_values

-- A periodic column's entry in row k.
abbrev pub entry_in_row : {F : Type 0} → F → ℕ → List F → F
entry_in_row zero k column = get_or column (k % length column) zero

-- This is the first of the values that isn't zero, and its place.
pub record IsFirstNonzero {F : Type 0} (zero : F) (values : List F) (place : ℕ) (value : F) : Type 0 where
  pub before : AllByRecursion (λ c. c ≡ zero) (take place values)
  pub there : slice_get values place ≡ Some value
  pub nonzero : value ≢ zero

-- All of the values are zero, or this is the first that isn't.
abbrev pub IsFoundIn : {F : Type 0} → F → List F → Option (ℕ × F) → Type 0
IsFoundIn zero values None = AllByRecursion (λ c. c ≡ zero) values
IsFoundIn zero values (Some broken) = IsFirstNonzero zero values broken.0 broken.1

module _ {F E : Type 0} (i : AirInstance F E) (rows : TraceRows F) where
  -- The constraints' values in row k.
  abbrev pub values_in : ℕ → List F
  values_in k = constraint_values (ring_operations i.base (λ c. c)) (leaves_in_row i rows k) i.constraints

  -- Row k breaks a constraint: the first that isn't zero there.
  pub record IsBrokenIn (k : ℕ) (violation : ConstraintViolation F) : Type 0 where
    pub row_is : violation.row ≡ k
    pub first : IsFirstNonzero i.base.zero (values_in k) violation.constraint violation.value

  -- It is the first row that breaks a constraint, and in it the first constraint.
  pub record IsFirstViolation (violation : ConstraintViolation F) : Type 0 where
    pub within : violation.row < height i
    pub before : (k : ℕ) → k < violation.row → HoldsInRow i rows k
    pub broken : IsBrokenIn violation.row violation

module _ {F : Type 0} (ring : RingOps F) (inverse : F → F) (root : ℕ → F) (adicity : ℕ) (constraints : List (Constraint F)) (periodic : List (List F)) (trace : Trace F) (preprocessed : Option (Trace F)) (public_values : List F) where
  -- Each constraint is zero in each row of a trace, where the field has a domain of as many points.
  abbrev pub IsSatisfiedByTrace : Type 0
  IsSatisfiedByTrace = (log_size : ℕ) → length trace.values ≡ 2 ^ log_size * trace.width → log_size ≤ adicity → HoldsInEachRow (base_air ring inverse root constraints periodic log_size) (trace_rows trace preprocessed public_values)

  -- It is the first row of a trace that breaks a constraint, and in it the first constraint.
  abbrev pub IsFirstOfTrace : ConstraintViolation F → Type 0
  IsFirstOfTrace violation = (log_size : ℕ) → length trace.values ≡ 2 ^ log_size * trace.width → IsFirstViolation (base_air ring inverse root constraints periodic log_size) (trace_rows trace preprocessed public_values) violation

-- Memory was refused, or this holds of the violation.
abbrev pub IsRefusedOr : {F : Type 0} → (ConstraintViolation F → Type 0) → ConstraintCheckError F → Type 0
IsRefusedOr holds OutOfMemory = Unit {0}
IsRefusedOr holds (Violation violation) = holds violation

-- Where a check finds a violation, this holds of it.
abbrev pub IfViolation : {A F : Type 0} → Result A (ConstraintCheckError F) → (ConstraintViolation F → Type 0) → Type 0
IfViolation result holds = IfErr result (IsRefusedOr holds)

-- A matrix that may be there, without the law of its rows.
abbrev pub trace_in : {F : Type 0} → Option (Bor (RowMajorMatrix F)) → Option (Trace F)
trace_in m = option_map trace_of (option_copied m)
