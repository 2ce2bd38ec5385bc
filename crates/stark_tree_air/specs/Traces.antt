-- The trace that a matrix is.
use Rattle.std.specs.Prelude.{Option}
use Rattle.std.specs.Option.{option_map}
use Rattle.stark_air.specs.Declaration.{Trace}
use Rattle.stark_support.specs.declared.matrix.RowMajorMatrix.{RowMajorMatrix}

abbrev pub matrix_trace : {F : Type 0} → RowMajorMatrix F → Trace F
matrix_trace m = record { width = m.width; values = m.values.items }

abbrev pub declared_trace : {F : Type 0} → Option (RowMajorMatrix F) → Option (Trace F)
declared_trace matrix = option_map matrix_trace matrix
