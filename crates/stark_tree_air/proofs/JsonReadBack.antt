-- What is written of an AIR is read back.
use Rattle.std.proofs.Common.{◌≡◌, ◌∙◌, ℕ, suc, zero, ◌+◌, ◌-◌, ◌*◌, ◌/◌, ◌%◌, ◌≤◌, ◌==◌, true, false, List, [], ◌∷◌, ◌++◌, Option, None, Some, Ok, is_some, length, map, take, drop, refl, sym, ap, arith, codes, length-drop}
use Rattle.std.proofs.Math.Nat.{mod-eq-sub-div-mul, div-mul-le_self, suc-mul, zero-mul}
use Rattle.std.proofs.lemmas.List.{drop_all, length-map, length-take-le}
use Rattle.std.proofs.lemmas.List.Folds.{drop_split}
use Rattle.std.specs.List.{range_with_len}
use Rattle.std.specs.Option.{option_or}
use Rattle.serde_json.specs.Data.{Data, number, unsigned}
use Rattle.serde_json.specs.Find.{get, as_null}
use Rattle.serde_json.specs.View.{items_of}
use Rattle.stark_support.specs.JsonFacts.{list_written}
use Rattle.stark_support.specs.declared.matrix.RowMajorMatrix.{RowMajorMatrix}
use Rattle.stark_json.specs.Elements.{elements_from, list_at, lists_from}
use Rattle.stark_air.specs.Declaration.{Trace}
use Rattle.stark_tree_air.specs.Faults.{first_node_fault, first_constraint_fault, tree_air_fault, tree_layout}
use Rattle.stark_tree_air.specs.NodeJson.{node_reading, node_writing, constraint_reading, constraint_writing}
use Rattle.stark_tree_air.specs.NodeJsonFacts.{node_back, constraint_back}
use Rattle.stark_tree_air.specs.Traces.{declared_trace}
use Rattle.stark_tree_air.specs.TreeJson.{ColumnsView, ListView, AirView, columns_view, list_view, view_fault, number_at, optional_at, unless_null, air_object, columns_at, constants_at, constraints_at, nodes_at, rows_at, joined_rows, trace_at, columns_reading, list_reading, air_reading, trace_row, trace_rows, trace_writing, trace_or_null, columns_writing, list_writing, air_writing}
use Rattle.stark_tree_air.specs.declared.columns.TreeColumns.{TreeColumns}
use Rattle.stark_tree_air.specs.declared.list.TreeList.{TreeList}
use Rattle.stark_tree_air.specs.declared.node.TreeConstraint.{TreeConstraint}
use Rattle.stark_tree_air.specs.declared.node.TreeNode.{TreeNode}
use Rattle.stark_tree_air.proofs.JsonSteps.{is_equal, next_times}

module _ {A : Type 0} (reading : Data → Option A) (writing : A → Data) (back : (x : A) → reading (writing x) ≡ Some x) where
  elements_back : (i : ℕ) (xs : List A) → elements_from reading i (items_of (map writing xs)) ≡ Ok xs
  elements_back i [] = refl
  elements_back i (x ∷ xs) = rw (back x, elements_back (i + 1) xs) refl

  list_back : (i : ℕ) (xs : List A) → list_at reading i (list_written writing xs) ≡ Ok xs
  list_back i xs = rw (elements_back 0 xs) refl

  lists_back : (i : ℕ) (xss : List (List A)) → lists_from reading i (items_of (map (list_written writing) xss)) ≡ Ok xss
  lists_back i [] = refl
  lists_back i (xs ∷ xss) = rw (elements_back 0 xs, lists_back (i + 1) xss) refl

number_read : (field : List ℕ) (n : ℕ) → number_at field (number (unsigned n)) ≡ Ok n
number_read field n = refl

-- a hint, where it is written
abbrev hint_json : Option ℕ → Option Data
hint_json None = None
hint_json (Some n) = Some (number (unsigned n))

hint_read : (field : List ℕ) (h : Option ℕ) → optional_at (number_at field) (hint_json h) ≡ Ok h
hint_read field None = refl
hint_read field (Some n) = refl

-- the rows of a whole trace, joined
all_rows : (n w : ℕ) → n % w ≡ 0 → n / w * w ≡ n
all_rows n w e = let a = mod-eq-sub-div-mul n w in let b = div-mul-le_self n w in omega (arith, a, b, e)

add_times : (i k w : ℕ) → (i + k) * w ≡ i * w + k * w
add_times i k w = grind arith

module _ {F : Type 0} (writing : F → Data) (t : Trace F) where
  row_wide : (i : ℕ) → i * t.width + t.width ≤ length t.values → length (trace_row writing t i) ≡ t.width
  row_wide i fits =
      let at = i * t.width in
      let left : length (drop at t.values) ≡ length t.values - at = length-drop at t.values in
      let taken : length (take ((at + t.width) - at) (drop at t.values)) ≡ (at + t.width) - at = length-take-le ((at + t.width) - at) (drop at t.values) (omega (arith, left, fits)) in
      omega (arith, taken)

  row_fits : (i k : ℕ) → (i + suc k) * t.width ≡ length t.values → i * t.width + t.width ≤ length t.values
  row_fits i k e =
      let later : i + suc k ≡ suc (i + k) = omega arith in
      let all : suc (i + k) * t.width ≡ length t.values = sym (ap (λ j. j * t.width) later) ∙ e in
      let first = suc-mul (i + k) t.width in
      let shared : (i + k) * t.width ≡ i * t.width + k * t.width = add_times i k t.width in
      omega (arith, all, first, shared)

  rows_joined : (i k : ℕ) → (i + k) * t.width ≡ length t.values → joined_rows t.width i (map (trace_row writing t) (range_with_len i k)) ≡ Ok (drop (i * t.width) t.values)
  rows_joined i zero e =
      let none : i + zero ≡ i = omega arith in
      let ended : i * t.width ≡ length t.values = sym (ap (λ j. j * t.width) none) ∙ e in
      ap (λ xs. Ok xs) (sym (drop_all (i * t.width) t.values (omega (arith, ended))))
  rows_joined i (suc k) e =
      let at = i * t.width in
      let row = trace_row writing t i in
      let later : i + suc k ≡ (i + 1) + k = omega arith in
      let rest = rows_joined (i + 1) k (sym (ap (λ j. j * t.width) later) ∙ e) in
      let next : (i + 1) * t.width ≡ at + t.width = next_times i t.width in
      let fits : at + t.width ≤ length t.values = row_fits i k e in
      let same : (length row == t.width) ≡ true = is_equal (length row) t.width (row_wide i fits) in
      let split : drop at t.values ≡ row ++ drop (at + t.width) t.values = drop_split t.values at (at + t.width) (omega arith) in
      rw (same, rest) (ap (λ j. Ok (row ++ drop j t.values)) next ∙ ap (λ xs. Ok xs) (sym split))

  trace_joined : length t.values % t.width ≡ 0 → joined_rows t.width 0 (trace_rows writing t) ≡ Ok t.values
  trace_joined whole =
      let k = length t.values / t.width in
      let none : 0 + k ≡ k = omega arith in
      rows_joined 0 k (ap (λ j. j * t.width) none ∙ all_rows (length t.values) t.width whole) ∙ ap (λ j. Ok (drop j t.values)) (zero-mul t.width)

-- every row of the trace is whole
abbrev pub IsWhole : {F : Type 0} → Option (Trace F) → Type 0
IsWhole None = Unit {0}
IsWhole (Some t) = length t.values % t.width ≡ 0

pub matrix_whole : {F : Type 0} (m : Option (RowMajorMatrix F)) → IsWhole (declared_trace m)
matrix_whole None = tt
matrix_whole (Some m) = m.whole_rows

pub no_view_fault : {F : Type 0} (columns : TreeColumns F) (list : TreeList F) → tree_air_fault columns list.constants.items list.nodes.items list.constraints.items ≡ None → view_fault (columns_view columns) (list_view list) ≡ None
no_view_fault columns list none =
    let ns = list.nodes.items in
    ap (λ n. option_or (first_node_fault (record (tree_layout columns ns) { periodics = n }) (length list.constants.items) 0 ns) (first_constraint_fault (length ns) 0 list.constraints.items))
    (length-map columns.periodic_columns.items (λ column. column.items)) ∙
    none

module _ {F : Type 0} (reading : Data → Option F) (writing : F → Data) (back : (x : F) → reading (writing x) ≡ Some x) where
  columns_back : (xss : List (List F)) → columns_at reading (list_written (list_written writing) xss) ≡ Ok xss
  columns_back xss = rw (lists_back reading writing back 0 xss) refl

  rows_back : (xss : List (List F)) → rows_at reading (list_written (list_written writing) xss) ≡ Ok xss
  rows_back xss = rw (lists_back reading writing back 0 xss) refl

  constants_back : (xs : List F) → constants_at reading (list_written writing xs) ≡ Ok xs
  constants_back xs = rw (elements_back reading writing back 0 xs) refl

  nodes_back : (ns : List TreeNode) → nodes_at (list_written node_writing ns) ≡ Ok ns
  nodes_back ns = rw (elements_back node_reading node_writing node_back 0 ns) refl

  constraints_back : (cs : List TreeConstraint) → constraints_at (list_written constraint_writing cs) ≡ Ok cs
  constraints_back cs = rw (elements_back constraint_reading constraint_writing constraint_back 0 cs) refl

  trace_read : (t : Trace F) → length t.values % t.width ≡ 0 → trace_at reading (trace_writing writing t) ≡ Ok t
  unfolding trace_at trace_writing
  trace_read t whole = rw (rows_back (trace_rows writing t), trace_joined writing t whole) refl

  trace_null : (t : Trace F) → is_some (as_null (trace_writing writing t)) ≡ false
  unfolding trace_writing
  trace_null t = refl

  optional_read : (t : Option (Trace F)) → IsWhole t → unless_null (trace_at reading) (trace_or_null writing t) ≡ Ok t
  optional_read None whole = refl
  optional_read (Some t) whole = rw (trace_null t, trace_read t whole) refl

  -- an object with the fields of an AIR
  record Has (o : Data) (a : AirView F) : Type 0 where
    known : air_object o ≡ Ok o
    width : get (codes "width") o ≡ Some (number (unsigned a.columns.width))
    public_values : get (codes "publics") o ≡ Some (number (unsigned a.columns.public_values))
    periodic : get (codes "periodic") o ≡ Some (list_written (list_written writing) a.columns.periodic)
    preprocessed : get (codes "preprocessed") o ≡ Some (trace_or_null writing a.columns.preprocessed)
    degree : get (codes "max_constraint_degree") o ≡ hint_json a.degree
    count : get (codes "num_constraints") o ≡ hint_json a.count
    constants : get (codes "constants") o ≡ Some (list_written writing a.list.constants)
    nodes : get (codes "nodes") o ≡ Some (list_written node_writing a.list.nodes)
    constraints : get (codes "constraints") o ≡ Some (list_written constraint_writing a.list.constraints)

  columns_read : (o : Data) (a : AirView F) → Has o a → IsWhole a.columns.preprocessed → columns_reading reading o ≡ Ok a.columns
  unfolding columns_reading
  columns_read o a h whole = rw (h.width, h.public_values, h.periodic, columns_back a.columns.periodic, h.preprocessed, optional_read a.columns.preprocessed whole) refl

  lists_are_read : (o : Data) (a : AirView F) → Has o a → list_reading reading o ≡ Ok a.list
  unfolding list_reading
  lists_are_read o a h =
      rw (
        h.constants,
        constants_back a.list.constants,
        h.nodes,
        nodes_back a.list.nodes,
        h.constraints,
        constraints_back a.list.constraints,
      )
      refl

  air_read : (o : Data) (a : AirView F) → Has o a → IsWhole a.columns.preprocessed → view_fault a.columns a.list ≡ None → air_reading reading o ≡ Ok a
  unfolding air_reading
  air_read o a h whole none =
      rw (
        h.known,
        columns_read o a h whole,
        h.degree,
        hint_read (codes "max_constraint_degree") a.degree,
        h.count,
        hint_read (codes "num_constraints") a.count,
        lists_are_read o a h,
        none,
      )
      refl

  written_has : (columns : ColumnsView F) (degree count : Option ℕ) (list : ListView F) → Has (air_writing writing (record { columns = columns; degree = degree; count = count; list = list })) (record { columns = columns; degree = degree; count = count; list = list })
  unfolding air_writing columns_writing list_writing
  written_has columns None None list = record { known = refl; width = refl; public_values = refl; periodic = refl; preprocessed = refl; degree = refl; count = refl; constants = refl; nodes = refl; constraints = refl }
  written_has columns None (Some n) list = record { known = refl; width = refl; public_values = refl; periodic = refl; preprocessed = refl; degree = refl; count = refl; constants = refl; nodes = refl; constraints = refl }
  written_has columns (Some d) None list = record { known = refl; width = refl; public_values = refl; periodic = refl; preprocessed = refl; degree = refl; count = refl; constants = refl; nodes = refl; constraints = refl }
  written_has columns (Some d) (Some n) list = record { known = refl; width = refl; public_values = refl; periodic = refl; preprocessed = refl; degree = refl; count = refl; constants = refl; nodes = refl; constraints = refl }

  pub air_back : (a : AirView F) → IsWhole a.columns.preprocessed → view_fault a.columns a.list ≡ None → air_reading reading (air_writing writing a) ≡ Ok a
  air_back a whole none = air_read (air_writing writing a) a (written_has a.columns a.degree a.count a.list) whole none
