-- Matrices that are read back.
use Rattle.std.specs.Prelude.{◌≡◌, ℕ, ◌/◌, ◌<◌, length}
use Rattle.stark_support.specs.Scheme.{matrix_row}
use Rattle.stark_support.specs.declared.matrix.RowMajorMatrix.{RowMajorMatrix}

-- A matrix has each row of another.
abbrev pub HasRowsOf : {F : Type 0} → RowMajorMatrix F → RowMajorMatrix F → Type 0
HasRowsOf again matrix = (r : ℕ) → r < length matrix.values.items / matrix.width → matrix_row again.values.items again.width r ≡ matrix_row matrix.values.items matrix.width r
