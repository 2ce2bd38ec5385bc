-- When a trace satisfies an AIR, row by row.
use Rattle.std.specs.Prelude.{◌≡◌, ℕ, ◌+◌, ◌%◌, ◌<◌, List, map, length, get_or}
use Rattle.std.specs.List.{AllByRecursion}
use Rattle.stark_support.specs.Operations.{ring_operations}
use Rattle.stark_support.specs.Powers.{power}
use Rattle.stark_support.specs.Scheme.{TakesRows, natural_coset}
use Rattle.stark_support.specs.Selectors.{Subgroup, first_row_selector, last_row_selector, transition_selector}
use Rattle.stark_support.specs.Subgroup.{group_of}
use Rattle.stark_air.specs.Rows.{environment_of}
use Rattle.stark_air.specs.Tree.{Constraint}
use Rattle.stark_air.specs.Value.{Environment, constraint_values}
use Rattle.stark_support.specs.FieldPair.{FieldsOps}
use Rattle.stark_security.specs.BadValues.{Satisfies}
use Rattle.stark_security.specs.ConstraintPolynomial.{AirInstance, height}
use Rattle.stark_quotient.specs.PointwiseQuotient.{RowsOnCoset}
use Rattle.stark_completeness.specs.TrueOpenings.{air_over, columns_above}

-- The rows of the main and the preprocessed trace, and the public values.
pub record TraceRows (F : Type 0) : Type 0 where
  pub main : ℕ → List F
  pub preprocessed : ℕ → List F
  pub public_values : List F

module _ {F E : Type 0} (i : AirInstance F E) where
  -- the point of row k
  abbrev pub row_point : ℕ → F
  row_point k = power i.base i.generator k

  abbrev pub row_group : Subgroup F
  row_group = group_of i.base_inverse i.generator i.log_size

  -- the row after row k, round the end
  abbrev pub row_after : ℕ → ℕ
  row_after k = (k + 1) % height i

  -- A periodic column's entries repeat from its first row on.
  abbrev pub periodic_entry : ℕ → List F → F
  periodic_entry k column = get_or column (k % length column) i.base.zero

  module _ (rows : TraceRows F) where
    -- The rows at the points of H.
    abbrev pub rows_on_group : RowsOnCoset F
    rows_on_group = record { size = height i; point = row_point; main = rows.main; preprocessed = rows.preprocessed; public_values = rows.public_values }

    -- The leaves of a constraint in row k: the row, the one after it, the public values, the periodic columns' entries, and the
    -- selectors at the row's point.
    abbrev pub leaves_in_row : ℕ → Environment F
    leaves_in_row k =
        environment_of (ring_operations i.base (λ c. c)) i.base.zero i.base.zero (rows.main k) (rows.main (row_after k)) (rows.preprocessed k) (rows.preprocessed (row_after k)) rows.public_values (map (periodic_entry k) i.periodic)
        (first_row_selector i.base (λ c. c) row_group (row_point k)) (last_row_selector i.base (λ c. c) row_group (row_point k)) (transition_selector i.base (λ c. c) row_group (row_point k))

    -- Each constraint's tree is zero in row k.
    abbrev pub HoldsInRow : ℕ → Type 0
    HoldsInRow k = AllByRecursion (λ c. c ≡ i.base.zero) (constraint_values (ring_operations i.base (λ c. c)) (leaves_in_row k) i.constraints)

    -- Each constraint's tree is zero in each row.
    abbrev pub HoldsInEachRow : Type 0
    HoldsInEachRow = (k : ℕ) → k < height i → HoldsInRow k

-- Columns that take the rows of a trace and of a preprocessed one satisfy the AIR exactly where each constraint's tree is zero in
-- each row.
abbrev pub IsSatisfiedByRows : {F E : Type 0} → FieldsOps F E → List (Constraint F) → List (List F) → ℕ → Type 0
IsSatisfiedByRows {F = F} fields constraints periodic log_size =
    (rows : TraceRows F) (main_width preprocessed_width : ℕ) (main preprocessed : List (List F))
    → TakesRows fields.base fields.root (natural_coset fields.base log_size) main_width rows.main main
    → TakesRows fields.base fields.root (natural_coset fields.base log_size) preprocessed_width rows.preprocessed preprocessed
    → (HoldsInEachRow (air_over fields constraints periodic log_size) rows → Satisfies (air_over fields constraints periodic log_size) (columns_above fields.embed main preprocessed rows.public_values))
    × (Satisfies (air_over fields constraints periodic log_size) (columns_above fields.embed main preprocessed rows.public_values) → HoldsInEachRow (air_over fields constraints periodic log_size) rows)
