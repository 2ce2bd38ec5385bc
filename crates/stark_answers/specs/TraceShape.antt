-- The shape of a trace that was read.
use Rattle.std.specs.Prelude.{◌≡◌, ℕ, ◌^◌, ◌<◌, ◌≤◌, ◌==◌, true, List, length, map}
use Rattle.std.specs.List.{flat_map, list_all}
use Rattle.std.specs.declared.vec.Vec.{Vec}
use Rattle.stark_air.specs.Declaration.{Trace}
use Rattle.stark_answers.specs.declared.shape.CheckShape.{CheckShape}

-- Rows, without where they lie in memory.
abbrev pub rows_of : {F A : Type 0} → List (Vec F A) → List (List F)
rows_of rows = map (λ row. row.items) rows

-- The trace has 2 ^ log_height rows, 1 to 2 ^ greatest, and as many as these beside preprocessed columns, which have 2 ^ log_rows; its
-- rows are as wide, and the public values as many, as the shape says.
pub record FitsShape {F : Type 0} (shape : CheckShape) (log_rows greatest : ℕ) (rows : List (List F)) (values : List F) (log_height : ℕ) : Type 0 where
  pub height : length rows ≡ 2 ^ log_height
  pub within : log_height ≤ greatest
  pub preprocessed_rows : 0 < shape.preprocessed_width → log_height ≡ log_rows
  pub widths : list_all (λ row. length row == shape.width) rows ≡ true
  pub public_values : length values ≡ shape.num_public_values

-- The trace of these rows.
abbrev pub trace_of : {F : Type 0} → ℕ → List (List F) → Trace F
trace_of width rows = record { width = width; values = flat_map (λ row. row) rows }
