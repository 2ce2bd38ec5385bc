-- What an AIR declares of itself.
use Rattle.std.specs.Prelude.{ℕ, List, Option}
use Rattle.stark_air.specs.Declaration.{Trace}
use Rattle.stark_air.specs.Layout.{Layout}
use Rattle.stark_air.specs.Tree.{Constraint}
use Rattle.stark_transcript.specs.Shape.{opens_next_row}
use Rattle.stark_answers.specs.declared.shape.CheckShape.{CheckShape}

-- What an AIR declares of itself, and its constraints.
pub record CheckedAir (F : Type 0) : Type 0 where
  pub layout : Layout
  -- the main columns whose next row is read
  pub next_columns : List ℕ
  pub periodic_columns : List (List F)
  pub degree_hint : Option ℕ
  pub constraints : List (Constraint F)
  pub preprocessed_trace : Option (Trace F)
  -- the preprocessed columns whose next row is read
  pub preprocessed_next_columns : List ℕ

abbrev pub checked_air : {F : Type 0} → Layout → List ℕ → List (List F) → Option ℕ → List (Constraint F) → Option (Trace F) → List ℕ → CheckedAir F
checked_air layout next_columns periodic_columns degree_hint constraints preprocessed_trace preprocessed_next_columns = record {
  layout = layout;
  next_columns = next_columns;
  periodic_columns = periodic_columns;
  degree_hint = degree_hint;
  constraints = constraints;
  preprocessed_trace = preprocessed_trace;
  preprocessed_next_columns = preprocessed_next_columns;
}

-- Its widths and counts, and whether the next row is read.
abbrev pub shape_of : {F : Type 0} → CheckedAir F → CheckShape
shape_of air = record { width = air.layout.main; num_public_values = air.layout.public_values; reads_next = opens_next_row air.next_columns; preprocessed_width = air.layout.preprocessed }
