-- Tables of periodic columns' values on a domain.
use Rattle.std.specs.Prelude.{◌≡◌, ℕ, ◌+◌, ◌*◌, ◌%◌, ◌<◌, List, length, Option, Some, slice_get}
use Rattle.stark_support.specs.Ring.{RingOps}
use Rattle.stark_support.specs.Coset.{TwoAdicCoset, coset_size, coset_point}
use Rattle.stark_support.specs.Periodic.{periodic_value}

-- What a table says of column c at point r: its rows, each of `width` values, begin again after `period` of them.
abbrev pub table_at : {F : Type 0} → List F → ℕ → ℕ → ℕ → ℕ → Option F
table_at values width period r c = slice_get values ((r % period) * width + c)

-- The table has a column's value for each periodic column and each point of a domain, beside a trace on another.
pub record HasPeriodicValues {F : Type 0} (field : RingOps F) (inverse : F → F) (root : ℕ → F) (trace : TwoAdicCoset F) (domain : TwoAdicCoset F) (columns : List (List F)) (values : List F) (width period : ℕ) : Type 0 where
  pub count : width ≡ length columns
  pub value : (r c : ℕ) (column : List F) → r < coset_size domain → slice_get columns c ≡ Some column
      → table_at values width period r c ≡ Some (periodic_value field inverse (root trace.log_size) (coset_size trace) field (λ x. x) column (coset_point field root domain r))

-- So many rows further on a table has the same values.
abbrev pub BeginsAgain : {F : Type 0} → List F → ℕ → ℕ → ℕ → Type 0
BeginsAgain values width period rows = (r c : ℕ) → table_at values width period (r + rows) c ≡ table_at values width period r c
