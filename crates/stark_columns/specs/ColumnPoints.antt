-- The points of a coset in row order, and columns that take rows there.
use Rattle.std.specs.Prelude.{◌≡◌, ℕ, ◌+◌, ◌*◌, ◌/◌, ◌^◌, ◌<◌, List, length, map}
use Rattle.std.specs.List.{AllByRecursion}
use Rattle.stark_support.specs.Ring.{RingOps}
use Rattle.stark_support.specs.Coset.{TwoAdicCoset, coset_size}
use Rattle.stark_support.specs.Points.{powers_from}
use Rattle.stark_support.specs.Polynomial.{value}
use Rattle.stark_support.specs.Scheme.{TakesRows, matrix_row, natural_coset, HasRows}
use Rattle.stark_support.specs.declared.matrix.RowMajorMatrix.{RowMajorMatrix}
use Rattle.std.specs.declared.vec.Vec.{Vec}
use Rattle.stark_dft.specs.Columns.{column_list}
pub use Rattle.stark_dft.specs.Columns.{AreColumns, IsPolynomialBelow}

abbrev pub points_of : {K : Type 0} → RingOps K → (ℕ → K) → TwoAdicCoset K → List K
points_of ring root coset = map (ring.mul coset.shift) (powers_from ring (root coset.log_size) 0 (coset_size coset))

-- A value for each column at each point of the coset: that of column c at point r stands at first + c + r * step.
abbrev pub HasCells : {K : Type 0} → TwoAdicCoset K → List K → ℕ → ℕ → ℕ → Type 0
HasCells coset values first step width = (c r : ℕ) → c < width → r < coset_size coset → first + c + r * step < length values

abbrev pub height_of : {K : Type 0} → RowMajorMatrix K → ℕ
height_of matrix = length matrix.values.items / matrix.width

-- Each column has as many coefficients as the coset points.
abbrev pub AreFull : {K : Type 0} → TwoAdicCoset K → List (List K) → Type 0
AreFull coset columns = AllByRecursion (λ column. length column ≡ coset_size coset) columns

-- The columns take the matrix's rows on the natural domain of its height.
abbrev pub TakeMatrix : {K : Type 0} → RingOps K → (ℕ → K) → RowMajorMatrix K → List (List K) → Type 0
TakeMatrix ring root matrix columns = (log_height : ℕ) → 2 ^ log_height ≡ height_of matrix
    → TakesRows ring root (natural_coset ring log_height) matrix.width (matrix_row matrix.values.items matrix.width) columns

-- As polynomials they are of a degree below the matrix's height.
abbrev pub ArePlain : {K : Type 0} → RingOps K → RowMajorMatrix K → List (List K) → Type 0
ArePlain ring matrix columns = AllByRecursion (λ column. IsPolynomialBelow ring (height_of matrix) (value ring column)) columns

-- Values given row after row are those of the columns at the coset's points.
abbrev pub HasRowsOf : {K A : Type 0} → RingOps K → (ℕ → K) → TwoAdicCoset K → List (Vec K A) → List K → Type 0
HasRowsOf ring root coset columns values = HasRows ring root coset (map column_list columns) values (length columns)
