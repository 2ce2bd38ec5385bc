-- The quotient of an AIR's folded constraint by the trace's vanishing polynomial, point by point of a coset.
use Rattle.std.specs.Prelude.{◌≡◌, ℕ, ◌+◌, ◌/◌, ◌%◌, ◌*◌, ◌<◌, List, [], map, length, Option, None, Some, slice_get, option_map}
use Rattle.stark_support.specs.Ring.{RingOps}
use Rattle.stark_support.specs.Operations.{ring_operations}
use Rattle.stark_support.specs.Coset.{TwoAdicCoset, coset_point, coset_size, subgroup_vanishing}
use Rattle.stark_support.specs.Periodic.{periodic_value}
use Rattle.stark_support.specs.Scheme.{matrix_row}
use Rattle.stark_support.specs.Selectors.{first_row_selector, last_row_selector, transition_selector}
use Rattle.stark_air.specs.Declaration.{Trace}
use Rattle.stark_air.specs.Rows.{environment_of}
use Rattle.stark_air.specs.Value.{Environment, constraint_values}
use Rattle.stark_parts.specs.Folded.{folded}
use Rattle.stark_security.specs.ConstraintPolynomial.{AirInstance, height, group}
use Rattle.std.specs.Borrow.{Bor}
use Rattle.stark_support.specs.declared.matrix.RowMajorMatrix.{RowMajorMatrix}

-- Where a quotient is taken, and what is known there: the size of the coset and its points, the rows of the main and the
-- preprocessed columns' values by the number of their point, and the public values.
pub record RowsOnCoset (F : Type 0) : Type 0 where
  pub size : ℕ
  pub point : ℕ → F
  pub main : ℕ → List F
  pub preprocessed : ℕ → List F
  pub public_values : List F

module _ {F E : Type 0} (i : AirInstance F E) (rows : RowsOnCoset F) where
  -- The point of the next row lies as many points further as the coset has for each of H, round the end.
  abbrev pub next_row : ℕ → ℕ
  next_row k = (k + rows.size / height i) % rows.size

  -- point k, seen in the extension
  abbrev pub point_above : ℕ → E
  point_above k = i.embed (rows.point k)

  -- the periodic columns' values at x
  abbrev pub periodic_row : E → List E
  periodic_row x = map (λ column. periodic_value i.base i.base_inverse i.generator (height i) i.ring i.embed column x) i.periodic

  -- The leaves of a constraint at point k: its row and the next one, the public values, and the periodic columns' and the
  -- selectors' values at the point.
  abbrev pub leaves_at : ℕ → Environment E
  leaves_at k =
      environment_of (ring_operations i.ring i.embed) i.base.zero i.ring.zero
      (map i.embed (rows.main k)) (map i.embed (rows.main (next_row k))) (map i.embed (rows.preprocessed k)) (map i.embed (rows.preprocessed (next_row k)))
      rows.public_values (periodic_row (point_above k))
      (first_row_selector i.ring (λ c. c) (group i) (point_above k)) (last_row_selector i.ring (λ c. c) (group i) (point_above k)) (transition_selector i.ring (λ c. c) (group i) (point_above k))

  -- the sum over j below n of alpha ^ (n - 1 - j) * C_j over these leaves
  abbrev pub folded_in_row : E → ℕ → E
  folded_in_row alpha k = folded i.ring alpha (constraint_values (ring_operations i.ring i.embed) (leaves_at k) i.constraints)

  -- That sum over Z_H at the point.
  abbrev pub pointwise_quotient : E → ℕ → E
  pointwise_quotient alpha k = i.ring.mul (folded_in_row alpha k) (i.inverse (subgroup_vanishing i.ring (height i) (point_above k)))

  -- The quotients at the first `count` points, in their order.
  pub record AreFirstQuotients (alpha : E) (count : ℕ) (values : List E) : Type 0 where
    pub number : length values ≡ count
    pub at_point : (k : ℕ) → k < count → slice_get values k ≡ Some (pointwise_quotient alpha k)

  -- The quotients at all points.
  abbrev pub ArePointwiseQuotients : E → List E → Type 0
  ArePointwiseQuotients alpha values = AreFirstQuotients alpha rows.size values

-- ---- rows in matrices

-- There are so many rows of this width.
pub record HasShape {F : Type 0} (width height : ℕ) (matrix : Trace F) : Type 0 where
  pub width_is : matrix.width ≡ width
  pub number : length matrix.values ≡ height * matrix.width

-- a matrix that isn't there has no columns
abbrev pub matrix_or_empty : {F : Type 0} → Option (Trace F) → Trace F
matrix_or_empty None = record { width = 0; values = [] }
matrix_or_empty (Some matrix) = matrix

-- The rows that matrices have on a coset.
abbrev pub rows_of_matrices : {F : Type 0} → RingOps F → (ℕ → F) → TwoAdicCoset F → Trace F → Trace F → List F → RowsOnCoset F
rows_of_matrices base root coset main preprocessed public_values = record {
  size = coset_size coset;
  point = coset_point base root coset;
  main = matrix_row main.values main.width;
  preprocessed = matrix_row preprocessed.values preprocessed.width;
  public_values = public_values;
}

-- A row of a matrix, round the end.
abbrev pub round_row : {F : Type 0} → Trace F → ℕ → List F
round_row matrix r = matrix_row matrix.values matrix.width (r % (length matrix.values / matrix.width))

-- A matrix's rows, without the law of their number; and those of one that may not be there.
abbrev pub rows_in : {F : Type 0} → RowMajorMatrix F → Trace F
rows_in m = record { width = m.width; values = m.values.items }

abbrev pub rows_or_none : {F : Type 0} → Option (Bor (RowMajorMatrix F)) → Trace F
rows_or_none m = matrix_or_empty (option_map (λ m. rows_in m.now) m)
