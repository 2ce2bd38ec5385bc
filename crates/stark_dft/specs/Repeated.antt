-- Values that begin again where their list ends, and rows of them.
use Rattle.std.specs.Prelude.{◌≡◌, ℕ, ◌+◌, ◌*◌, ◌%◌, ◌<◌, List, map, length, Some, ◌^◌}
use Rattle.std.specs.Int.{IsPowerOfTwo}
use Rattle.std.specs.List.{slice_get}
use Rattle.stark_support.specs.Ring.{RingOps}
use Rattle.stark_support.specs.Coset.{TwoAdicCoset, coset_point}
use Rattle.stark_dft.specs.Passes.{entry}
use Rattle.stark_support.specs.Periodic.{periodic_value}
use Rattle.std.specs.declared.vec.Vec.{Vec}
use Rattle.stark_dft.specs.Columns.{column_list}

-- For each of the first `count` columns a list of its values at the points of a coset, counted round the list's end.
pub record AreExtended {C : Type 0} {K : Type 0} (ring : RingOps K) (root : ℕ → K) (coset : TwoAdicCoset K) (value_of : C → K → K) (columns : List C) (count : ℕ) (lists : List (List K)) : Type 0 where
  pub number : length lists ≡ count
  pub power : (c : ℕ) (list : List K) → slice_get lists c ≡ Some list → IsPowerOfTwo (length list)
  pub value_at : (c r : ℕ) (column : C) (list : List K) → slice_get columns c ≡ Some column → slice_get lists c ≡ Some list
      → slice_get list (r % length list) ≡ Some (value_of column (coset_point ring root coset r))

-- the value of each list at a row, counted round the list's end
abbrev pub row_round : {K : Type 0} → RingOps K → List (List K) → ℕ → List K
row_round ring lists r = map (λ list. entry ring list (r % length list)) lists

-- So many rows, each of `width` values, one after the other.
pub record AreRowsOf {K : Type 0} (width : ℕ) (row : ℕ → List K) (count : ℕ) (values : List K) : Type 0 where
  pub number : length values ≡ count * width
  pub value_at : (r c : ℕ) (x : K) → r < count → slice_get (row r) c ≡ Some x → slice_get values (r * width + c) ≡ Some x

-- The values of a column, which repeats down 2 ^ log_height rows, at the points of a coset, counted round the list's end.
abbrev pub IsExtended : {K : Type 0} → RingOps K → (K → K) → (ℕ → K) → ℕ → TwoAdicCoset K → List K → List K → Type 0
IsExtended ring inverse root log_height coset column values = (r : ℕ) → slice_get values (r % length values)
    ≡ Some (periodic_value ring inverse (root log_height) (2 ^ log_height) ring (λ x. x) column (coset_point ring root coset r))

-- Those of each column.
abbrev pub AreColumnsExtended : {K A B : Type 0} → RingOps K → (K → K) → (ℕ → K) → ℕ → TwoAdicCoset K → List (Vec K A) → List (Vec K B) → Type 0
AreColumnsExtended ring inverse root log_height coset columns extended = AreExtended ring root coset
    (periodic_value ring inverse (root log_height) (2 ^ log_height) ring (λ x. x)) (map column_list columns) (length columns) (map column_list extended)
