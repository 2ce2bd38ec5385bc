-- How much of each kind the rows have that an AIR is evaluated on symbolically.
use Rattle.std.specs.Prelude.{◌≡◌, ◌≤◌, List, length}
use Rattle.std.proofs.Common.{arith}
use Rattle.stark_air.specs.Layout.{Layout, Covers}
use Rattle.stark_air.specs.declared.layout.AirLayout.{AirLayout}

-- The next rows are as wide as the current ones.
abbrev pub symbolic_layout : AirLayout → Layout
symbolic_layout l = record {
  main = l.main_width;
  main_next = l.main_width;
  preprocessed = l.preprocessed_width;
  preprocessed_next = l.preprocessed_width;
  public_values = l.num_public_values;
  periodics = l.num_periodic_columns;
}

-- The layout, with the counts of the values in hand.
abbrev pub rows_layout : {A : Type 0} {B : Type 0} → AirLayout → List A → List B → Layout
rows_layout l public_values periodic = record (symbolic_layout l) { public_values = length public_values; periodics = length periodic }

-- An AIR's own widths and counts have all that it reads, where it reads no more of the next rows than there is.
pub own_layout_covers : (l : AirLayout) (want : Layout) → l.main_width ≡ want.main → l.preprocessed_width ≡ want.preprocessed → l.num_public_values ≡ want.public_values → l.num_periodic_columns ≡ want.periodics →
    want.main_next ≤ want.main → want.preprocessed_next ≤ want.preprocessed → Covers (symbolic_layout l) want
own_layout_covers l want main preprocessed public_values periodics main_next preprocessed_next = record {
  main = omega arith;
  main_next = omega arith;
  preprocessed = omega arith;
  preprocessed_next = omega arith;
  public_values = omega arith;
  periodics = omega arith;
}
