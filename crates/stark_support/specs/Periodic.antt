-- Which periodic columns fit a trace, and their values.
use Rattle.std.specs.Prelude.{◌≡◌, ℕ, ◌+◌, ◌/◌, ◌%◌, ◌==◌, ◌≤◌, nat_le, List, [], ◌∷◌, length, map, slice_index_or, Option, None, Some, Result, MatchResult, if◌then◌else◌, IsTrue}
use Rattle.std.specs.List.{slice_get}
use Rattle.std.specs.declared.vec.Vec.{Vec}
use Rattle.std.specs.Int.{is_power_of_two}
use Rattle.std.specs.Option.{option_or}
use Rattle.stark_support.specs.Ring.{RingOps}
use Rattle.stark_support.specs.FieldPair.{FieldsOps}
use Rattle.stark_support.specs.Coset.{TwoAdicCoset, coset_size}
use Rattle.stark_support.specs.Powers.{power}
use Rattle.stark_support.specs.Points.{powers_from}
use Rattle.stark_support.specs.Polynomial.{value_over}
use Rattle.stark_support.specs.Interpolation.{interpolation}
use Rattle.stark_support.specs.declared.periodic.PeriodicColumnShapeError.{PeriodicColumnShapeError}
use Rattle.stark_support.specs.declared.periodic.PeriodicColumnShapeError.TheVariants.{Empty, NotPowerOfTwo, TooLong}

-- The length is one of 1, 2, 4, .. up to that of the trace.
pub record ColumnFits (trace_len : ℕ) (length : ℕ) : Type 0 where
  pub power : IsTrue (is_power_of_two length)
  pub within : length ≤ trace_len

-- what is wrong with the column of this number and length, beside a trace of this length
abbrev pub column_fault : ℕ → ℕ → ℕ → Option PeriodicColumnShapeError
column_fault trace_len column length =
    if length == 0 then Some (Empty column)
    else if is_power_of_two length then (if nat_le length trace_len then None else Some (TooLong column))
    else Some (NotPowerOfTwo column)

-- the fault of the first column that has one, of columns with these lengths, whose numbers count up from the given one
abbrev pub first_fault : ℕ → ℕ → List ℕ → Option PeriodicColumnShapeError
first_fault trace_len column [] = None
first_fault trace_len column (length ∷ lengths) = option_or (column_fault trace_len column length) (first_fault trace_len (column + 1) lengths)

-- The polynomial of degree below the column's length that takes the column on the group of as many points, of a trace of
-- `height` rows whose domain `generator` generates.
abbrev pub column_polynomial : {K : Type 0} → RingOps K → (K → K) → K → ℕ → List K → List K
column_polynomial ring inverse generator height column = interpolation ring inverse (powers_from ring (power ring generator (height / length column)) 0 (length column)) column

-- A column's value at x: that of its polynomial at x ^ (height / length).
abbrev pub periodic_value : {K : Type 0} {E : Type 0} → RingOps K → (K → K) → K → ℕ → RingOps E → (K → E) → List K → E → E
periodic_value ring inverse generator height extension embed column x =
    value_over extension embed (column_polynomial ring inverse generator height column) (power extension x (height / length column))

-- The values at x of columns beside a trace of `height` rows.
abbrev pub periodic_values : {K : Type 0} {E : Type 0} {A : Type 0} → RingOps K → (K → K) → K → ℕ → RingOps E → (K → E) → List (Vec K A) → E → List E
periodic_values ring inverse generator height extension embed columns x = map (λ column. periodic_value ring inverse generator height extension embed column.items x) columns

-- The values at x of columns beside a trace on a domain.
abbrev pub periodic_values_on : {F : Type 0} {E : Type 0} {A : Type 0} → FieldsOps F E → TwoAdicCoset F → List (Vec F A) → E → List E
periodic_values_on fields coset columns x =
    periodic_values fields.base fields.base_inverse (fields.root coset.log_size) (coset_size coset) fields.ring fields.embed columns x

-- Columns are taken where each fits the trace; else the fault is the first column's that doesn't.
abbrev pub FitsOrFault : {T : Type 0} → ℕ → List ℕ → Result T PeriodicColumnShapeError → Type 0
FitsOrFault trace_len lengths result = MatchResult result (λ _. first_fault trace_len 0 lengths ≡ None) (λ fault. first_fault trace_len 0 lengths ≡ Some fault)

-- The values of columns are their entries in row i, counted round the end of each.
abbrev pub TakeEntries : {K : Type 0} {E : Type 0} {A : Type 0} → (K → E) → K → List (Vec K A) → ℕ → List E → Type 0
TakeEntries {K} {A = A} embed zero columns i values = (c : ℕ) (column : Vec K A) → slice_get columns c ≡ Some column
    → slice_get values c ≡ Some (embed (slice_index_or column.items (i % length column.items) zero))
