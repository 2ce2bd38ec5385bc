-- What constraints read at one point, in the base field, and where packed rows have it in a lane.
use Rattle.std.specs.Prelude.{◌≡◌, ◌<◌, ◌*◌, ℕ, List, ◌++◌, length, map, slice_index_or, take, drop}
use Rattle.stark_support.specs.Ring.{RingOps}
use Rattle.stark_support.specs.Operations.{Operations, ring_operations}
use Rattle.stark_air.specs.Layout.{Layout}
use Rattle.stark_air.specs.Rows.{environment_of, layout_of}
use Rattle.stark_air.specs.Tree.{Constraint}
use Rattle.stark_air.specs.Value.{Environment, constraint_values}
use Rattle.stark_prover_folder.specs.Finalized.{lane_values}
use Rattle.stark_parts.specs.Folded.{folded}

-- The current and the next row of the main and the preprocessed columns, the public and the periodic columns' values, and the
-- selectors.
pub record PointRow (F : Type 0) : Type 0 where
  pub main_current : List F
  pub main_next : List F
  pub preprocessed_current : List F
  pub preprocessed_next : List F
  pub public_values : List F
  pub periodic : List F
  pub first_row : F
  pub last_row : F
  pub transition : F

module _ {F E : Type 0} (base : RingOps F) (ring : RingOps E) (embed : F → E) (row : PointRow F) where
  -- The row's leaves, embedded.
  abbrev pub row_environment : Environment E
  row_environment =
      environment_of (ring_operations ring embed) base.zero ring.zero
      (map embed row.main_current) (map embed row.main_next) (map embed row.preprocessed_current) (map embed row.preprocessed_next) row.public_values (map embed row.periodic)
      (embed row.first_row) (embed row.last_row) (embed row.transition)

  -- The sum over j below n of alpha ^ (n - 1 - j) times constraint j over the row.
  abbrev pub folded_over : E → List (Constraint F) → E
  folded_over alpha cs = folded ring alpha (constraint_values (ring_operations ring embed) row_environment cs)

-- Packed values have the row in lane i: two rows one after the other of the main and of the preprocessed columns, the periodic
-- columns' values, and the selectors.
pub record IsLaneRow {F P : Type 0} (lanes : P → List F) (blank : F) (main preprocessed periodic : List P) (first last change : P) (i : ℕ) (row : PointRow F) : Type 0 where
  pub main_rows : lane_values lanes i blank main ≡ row.main_current ++ row.main_next
  pub preprocessed_rows : lane_values lanes i blank preprocessed ≡ row.preprocessed_current ++ row.preprocessed_next
  pub periodic_row : lane_values lanes i blank periodic ≡ row.periodic
  pub first_row : slice_index_or (lanes first) i blank ≡ row.first_row
  pub last_row : slice_index_or (lanes last) i blank ≡ row.last_row
  pub transition : slice_index_or (lanes change) i blank ≡ row.transition

-- Packed rows, two one after the other of `width` and two of `preprocessed_columns` columns, with the periodic columns' and the
-- public values, have the lengths that a layout declares.
pub record FitLayout {F P : Type 0} (l : Layout) (width preprocessed_columns : ℕ) (rows preprocessed_rows periodic : List P) (values : List F) : Type 0 where
  pub main : length rows ≡ 2 * width
  pub main_width : width ≡ l.main
  pub preprocessed : length preprocessed_rows ≡ 2 * preprocessed_columns
  pub preprocessed_width : preprocessed_columns ≡ l.preprocessed
  pub public_values : length values ≡ l.public_values
  pub periodics : length periodic ≡ l.periodics

-- Packed rows in a folder: of `width` and of `preprocessed_width` columns.
module _ {F P : Type 0} (width preprocessed_width : ℕ) (main preprocessed periodic : List P) (public_values : List F) where
  abbrev pub packed_environment : Operations F P → F → P → P → P → Environment P
  packed_environment o blank first last change =
      environment_of o blank first (take width main) (drop width main) (take preprocessed_width preprocessed) (drop preprocessed_width preprocessed) public_values periodic first last change

  abbrev pub packed_layout : Layout
  packed_layout = layout_of (take width main) (drop width main) (take preprocessed_width preprocessed) (drop preprocessed_width preprocessed) public_values periodic

-- In each of `number` lanes `packed` is the folded sum of the constraints over the row that packed rows have there.
abbrev pub AreFoldedRows : {F E P Q : Type 0} (base : RingOps F) (ring : RingOps E) (embed : F → E) (lanes : P → List F) (lanes_above : Q → List E) (number width preprocessed_width : ℕ)
    (main preprocessed periodic : List P) (public_values : List F) (first last change : P) (alpha : E) (cs : List (Constraint F)) (packed : Q) → Type 0
AreFoldedRows {F} base ring embed lanes lanes_above number width preprocessed_width main preprocessed periodic public_values first last change alpha cs packed =
    (i : ℕ) → i < number → (row : PointRow F) → IsLaneRow lanes base.zero main preprocessed periodic first last change i row
    → length row.main_current ≡ width → length row.preprocessed_current ≡ preprocessed_width → row.public_values ≡ public_values
    → slice_index_or (lanes_above packed) i ring.zero ≡ folded_over base ring embed row alpha cs
