-- The JSON of an AIR that is data: what a JSON value is read as, or its first fault, and what is written.
use Rattle.std.specs.Prelude.{◌≡◌, ◌==◌, ℕ, ◌+◌, ◌*◌, ◌/◌, List, [], ◌∷◌, ◌++◌, length, map, if◌then◌else◌, Option, None, Some, IfSome, is_some, ok_or, unwrap_or, Result, Ok, Err, codes, string_bytes}
use Rattle.std.specs.List.{range_with_len, slice_range}
use Rattle.std.specs.Option.{option_or}
use Rattle.serde_json.specs.Data.{Data, null, number, object, unsigned, Items, Members, no_members, put as with_member}
use Rattle.serde_json.specs.Find.{at, get, as_null, as_array, as_object}
use Rattle.stark_support.specs.Json.{whole_at}
use Rattle.stark_support.specs.JsonFacts.{list_written}
use Rattle.stark_json.specs.Elements.{ListRefusal, no_list, no_element, elements_from, lists_from}
use Rattle.stark_json.specs.Names.{first_unknown}
use Rattle.stark_air.specs.Declaration.{Trace, trace_width}
use Rattle.stark_air.specs.Layout.{Layout}
use Rattle.stark_tree_air.specs.Faults.{first_node_fault, first_constraint_fault, reads_main_next, reads_preprocessed_next}
use Rattle.stark_tree_air.specs.NodeJson.{node_reading, node_writing, constraint_reading, constraint_writing}
use Rattle.stark_tree_air.specs.NodeRefusal.{NodeRefusal, ConstraintRefusal, refused_node, refused_constraint, node_refusal, constraint_refusal}
use Rattle.stark_tree_air.specs.Traces.{declared_trace}
use Rattle.stark_tree_air.specs.declared.columns.TreeColumns.{TreeColumns}
use Rattle.stark_tree_air.specs.declared.columns.TreeDeclaration.{TreeDeclaration}
use Rattle.stark_tree_air.specs.declared.error.TreeAirError.{TreeAirError}
use Rattle.stark_tree_air.specs.declared.json_error.TreeJsonError.{TreeJsonError}
use Rattle.stark_tree_air.specs.declared.list.TreeList.{TreeList}
use Rattle.stark_tree_air.specs.declared.node.TreeNode.{TreeNode}
use Rattle.stark_tree_air.specs.declared.node.TreeConstraint.{TreeConstraint}

-- Why a JSON value is not read.
pub data TreeFault : Type 0 where
  not_an_object : TreeFault
  unknown_member : List ℕ → TreeFault
  unknown_trace_member : List ℕ → TreeFault
  missing_field : List ℕ → TreeFault
  wrong_kind : List ℕ → TreeFault
  constant_refused : ℕ → TreeFault
  -- a periodic column that is no array; the row of one
  column_refused : ℕ → TreeFault
  periodic_refused : ℕ → ℕ → TreeFault
  -- a preprocessed row that is no array; the column of one
  row_refused : ℕ → TreeFault
  preprocessed_refused : ℕ → ℕ → TreeFault
  -- a preprocessed row, the width that it has to have, and the one that it has
  row_width : ℕ → ℕ → ℕ → TreeFault
  node_refused : ℕ → NodeRefusal → TreeFault
  constraint_refused : ℕ → ConstraintRefusal → TreeFault
  air_fault : TreeAirError → TreeFault

-- The fault that an error names; want of memory names none.
abbrev pub tree_fault : TreeJsonError → Option TreeFault
tree_fault TreeJsonError.NotAnObject = Some not_an_object
tree_fault (TreeJsonError.UnknownMember name) = Some (unknown_member (string_bytes name.name))
tree_fault (TreeJsonError.UnknownTraceMember name) = Some (unknown_trace_member (string_bytes name.name))
tree_fault (TreeJsonError.MissingField field) = Some (missing_field field.now)
tree_fault (TreeJsonError.WrongKind field) = Some (wrong_kind field.now)
tree_fault (TreeJsonError.Constant constant) = Some (constant_refused constant)
tree_fault (TreeJsonError.PeriodicColumn column) = Some (column_refused column)
tree_fault (TreeJsonError.PeriodicValue column row) = Some (periodic_refused column row)
tree_fault (TreeJsonError.PreprocessedRow row) = Some (row_refused row)
tree_fault (TreeJsonError.PreprocessedValue row column) = Some (preprocessed_refused row column)
tree_fault (TreeJsonError.RowWidth row expected got) = Some (row_width row expected got)
tree_fault (TreeJsonError.Node node fault) = Some (node_refused node (refused_node fault))
tree_fault (TreeJsonError.Constraint constraint fault) = Some (constraint_refused constraint (refused_constraint fault))
tree_fault (TreeJsonError.Air error) = Some (air_fault error)
tree_fault TreeJsonError.OutOfMemory = None

-- What a decoder returned, seen by view, is what reading gives: the value, or the fault, unless memory ran out.
abbrev pub Decodes : {A : Type 0} {B : Type 0} → (A → B) → Result A TreeJsonError → Result B TreeFault → Type 0
Decodes view (Ok a) reading = reading ≡ Ok (view a)
Decodes view (Err error) reading = IfSome (tree_fault error) (λ f. reading ≡ Err f)

infixl 10 ◌>>=◌
abbrev pub ◌>>=◌ : {A : Type 0} {B : Type 0} → Result A TreeFault → (A → Result B TreeFault) → Result B TreeFault
(Ok a) >>= f = f a
(Err e) >>= f = Err e

-- ---- what an AIR carries, as lists

pub record ColumnsView (F : Type 0) : Type 0 where
  pub width : ℕ
  pub public_values : ℕ
  pub periodic : List (List F)
  pub preprocessed : Option (Trace F)

pub record ListView (F : Type 0) : Type 0 where
  pub constants : List F
  pub nodes : List TreeNode
  pub constraints : List TreeConstraint

pub record AirView (F : Type 0) : Type 0 where
  pub columns : ColumnsView F
  pub degree : Option ℕ
  pub count : Option ℕ
  pub list : ListView F

abbrev pub columns_view : {F : Type 0} → TreeColumns F → ColumnsView F
columns_view columns = record {
  width = columns.width;
  public_values = columns.num_public_values;
  periodic = map (λ column. column.items) columns.periodic_columns.items;
  preprocessed = declared_trace columns.preprocessed_trace;
}

abbrev pub list_view : {F : Type 0} → TreeList F → ListView F
list_view list = record { constants = list.constants.items; nodes = list.nodes.items; constraints = list.constraints.items }

abbrev pub air_view : {F : Type 0} → TreeDeclaration F → TreeList F → AirView F
air_view declaration list = record {
  columns = columns_view declaration.columns;
  degree = declaration.max_constraint_degree;
  count = declaration.num_constraints;
  list = list_view list;
}

-- the first fault of the nodes and the constraints over the columns
abbrev pub view_layout : {F : Type 0} → ColumnsView F → List TreeNode → Layout
view_layout columns ns =
    let preprocessed = trace_width columns.preprocessed in
    record {
      main = columns.width;
      main_next = (if reads_main_next ns then columns.width else 0);
      preprocessed = preprocessed;
      preprocessed_next = (if reads_preprocessed_next ns then preprocessed else 0);
      public_values = columns.public_values;
      periodics = length columns.periodic;
    }

abbrev pub view_fault : {F : Type 0} → ColumnsView F → ListView F → Option TreeAirError
view_fault columns list = option_or (first_node_fault (view_layout columns list.nodes) (length list.constants) 0 list.nodes) (first_constraint_fault (length list.nodes) 0 list.constraints)

-- ---- fields

abbrev pub unless_unknown : (List ℕ → TreeFault) → Data → Option (List ℕ) → Result Data TreeFault
unless_unknown unknown d None = Ok d
unless_unknown unknown d (Some name) = Err (unknown name)

-- an object whose members have no other names than these
abbrev pub object_at : TreeFault → (List ℕ → TreeFault) → List (List ℕ) → Data → Result Data TreeFault
object_at kind unknown names d = ok_or (as_object d) kind >>= λ ms. unless_unknown unknown d (first_unknown names ms)

-- a field of a name, which a fault calls otherwise
abbrev pub required_as : {A : Type 0} → List ℕ → List ℕ → (Data → Result A TreeFault) → Data → Result A TreeFault
required_as field name reading d = ok_or (get name d) (missing_field field) >>= reading

abbrev pub required : {A : Type 0} → List ℕ → (Data → Result A TreeFault) → Data → Result A TreeFault
required field reading d = required_as field field reading d

abbrev pub unless_null : {A : Type 0} → (Data → Result A TreeFault) → Data → Result (Option A) TreeFault
unless_null reading d = if is_some (as_null d) then Ok None else reading d >>= λ a. Ok (Some a)

-- a field that may be missing or null
abbrev pub optional_at : {A : Type 0} → (Data → Result A TreeFault) → Option Data → Result (Option A) TreeFault
optional_at reading None = Ok None
optional_at reading (Some d) = unless_null reading d

abbrev pub optional : {A : Type 0} → List ℕ → (Data → Result A TreeFault) → Data → Result (Option A) TreeFault
optional field reading d = optional_at reading (get field d)

abbrev pub number_at : List ℕ → Data → Result ℕ TreeFault
number_at field d = ok_or (whole_at d) (wrong_kind field)

abbrev pub array_of : List ℕ → Data → Result Items TreeFault
array_of field d = ok_or (as_array d) (wrong_kind field)

-- what was read, whose fault is one of the AIR
abbrev pub with_fault : {A E : Type 0} → (E → TreeFault) → Result A E → Result A TreeFault
with_fault fault (Ok a) = Ok a
with_fault fault (Err e) = Err (fault e)

abbrev pub column_fault : ListRefusal → TreeFault
column_fault (no_list column) = column_refused column
column_fault (no_element column row) = periodic_refused column row

abbrev pub row_fault : ListRefusal → TreeFault
row_fault (no_list row) = row_refused row
row_fault (no_element row column) = preprocessed_refused row column

-- what stands at this place of an array; null where nothing does
abbrev pub item_at : ℕ → Data → Data
item_at i d = unwrap_or (at i d) null

abbrev pub node_fault : Data → ℕ → TreeFault
node_fault d i = node_refused i (node_refusal (item_at i d))

abbrev pub constraint_fault : Data → ℕ → TreeFault
constraint_fault d i = constraint_refused i (constraint_refusal (item_at i d))

-- an array of nodes
abbrev pub nodes_at : Data → Result (List TreeNode) TreeFault
nodes_at d = array_of (codes "nodes") d >>= λ ds. with_fault (node_fault d) (elements_from node_reading 0 ds)

-- an array of constraints
abbrev pub constraints_at : Data → Result (List TreeConstraint) TreeFault
constraints_at d = array_of (codes "constraints") d >>= λ ds. with_fault (constraint_fault d) (elements_from constraint_reading 0 ds)

-- rows of this width, joined, from the row r on
abbrev pub joined_rows : {F : Type 0} → ℕ → ℕ → List (List F) → Result (List F) TreeFault
joined_rows width r [] = Ok []
joined_rows width r (row ∷ rows) = if length row == width then (joined_rows width (r + 1) rows >>= λ rest. Ok (row ++ rest)) else Err (row_width r width (length row))

-- the names of an AIR's members, and of a preprocessed trace's
abbrev pub air_names : List (List ℕ)
air_names =
    codes "width" ∷ codes "publics" ∷ codes "periodic" ∷ codes "preprocessed" ∷ codes "max_constraint_degree" ∷ codes "num_constraints"
    ∷ codes "constants" ∷ codes "nodes" ∷ codes "constraints" ∷ []

abbrev pub trace_names : List (List ℕ)
trace_names = codes "width" ∷ codes "rows" ∷ []

abbrev pub air_object : Data → Result Data TreeFault
air_object d = object_at not_an_object unknown_member air_names d

abbrev pub trace_object : Data → Result Data TreeFault
trace_object d = object_at (wrong_kind (codes "preprocessed")) unknown_trace_member trace_names d

abbrev pub trace_width_at : Data → Result ℕ TreeFault
trace_width_at d = required_as (codes "preprocessed.width") (codes "width") (number_at (codes "preprocessed.width")) d

module _ {F : Type 0} (element : Data → Option F) where
  -- an array of elements
  abbrev pub constants_at : Data → Result (List F) TreeFault
  constants_at d = array_of (codes "constants") d >>= λ ds. with_fault constant_refused (elements_from element 0 ds)

  -- an array of arrays of elements
  abbrev pub columns_at : Data → Result (List (List F)) TreeFault
  columns_at d = array_of (codes "periodic") d >>= λ ds. with_fault column_fault (lists_from element 0 ds)

  abbrev pub rows_at : Data → Result (List (List F)) TreeFault
  rows_at d = array_of (codes "preprocessed.rows") d >>= λ ds. with_fault row_fault (lists_from element 0 ds)

  abbrev pub required_rows : Data → Result (List (List F)) TreeFault
  required_rows d = required_as (codes "preprocessed.rows") (codes "rows") rows_at d

  -- an object of a width and rows
  unfoldable pub trace_at : Data → Result (Trace F) TreeFault
  trace_at d = do
    o ← trace_object d
    width ← trace_width_at o
    rows ← required_rows o
    values ← joined_rows width 0 rows
    Ok (record { width = width; values = values })

  unfoldable pub columns_reading : Data → Result (ColumnsView F) TreeFault
  columns_reading d = do
    width ← required (codes "width") (number_at (codes "width")) d
    public_values ← required (codes "publics") (number_at (codes "publics")) d
    periodic ← required (codes "periodic") columns_at d
    preprocessed ← optional (codes "preprocessed") trace_at d
    Ok (record { width = width; public_values = public_values; periodic = periodic; preprocessed = preprocessed })

  unfoldable pub list_reading : Data → Result (ListView F) TreeFault
  list_reading d = do
    constants ← required (codes "constants") constants_at d
    nodes ← required (codes "nodes") nodes_at d
    constraints ← required (codes "constraints") constraints_at d
    Ok (record { constants = constants; nodes = nodes; constraints = constraints })

  -- the AIR, unless its nodes or constraints have a fault
  abbrev pub without_fault : ColumnsView F → Option ℕ → Option ℕ → ListView F → Option TreeAirError → Result (AirView F) TreeFault
  without_fault columns degree count list None = Ok (record { columns = columns; degree = degree; count = count; list = list })
  without_fault columns degree count list (Some fault) = Err (air_fault fault)

  -- the AIR that a JSON value spells, or its first fault
  unfoldable pub air_reading : Data → Result (AirView F) TreeFault
  air_reading d = do
    o ← air_object d
    columns ← columns_reading o
    degree ← optional (codes "max_constraint_degree") (number_at (codes "max_constraint_degree")) o
    count ← optional (codes "num_constraints") (number_at (codes "num_constraints")) o
    list ← list_reading o
    without_fault columns degree count list (view_fault columns list)

-- ---- writing

-- a hint is written where there is one
abbrev pub with_number : List ℕ → Option ℕ → Members → Members
with_number name None ms = ms
with_number name (Some n) ms = with_member name (number (unsigned n)) ms

module _ {F : Type 0} (element : F → Data) where
  -- the row of this index
  abbrev pub trace_row : Trace F → ℕ → List F
  trace_row trace r = slice_range trace.values (r * trace.width) (r * trace.width + trace.width)

  abbrev pub trace_rows : Trace F → List (List F)
  trace_rows trace = map (trace_row trace) (range_with_len 0 (length trace.values / trace.width))

  unfoldable pub trace_writing : Trace F → Data
  trace_writing trace = object (with_member (codes "rows") (list_written (list_written element) (trace_rows trace)) (with_member (codes "width") (number (unsigned trace.width)) no_members))

  abbrev pub trace_or_null : Option (Trace F) → Data
  trace_or_null None = null
  trace_or_null (Some trace) = trace_writing trace

  -- the members of the columns, behind others
  unfoldable pub columns_writing : ColumnsView F → Members
  columns_writing columns =
      with_member (codes "preprocessed") (trace_or_null columns.preprocessed)
      (with_member (codes "periodic") (list_written (list_written element) columns.periodic)
      (with_member (codes "publics") (number (unsigned columns.public_values))
      (with_member (codes "width") (number (unsigned columns.width)) no_members)))

  unfoldable pub list_writing : ListView F → Members → Members
  list_writing list ms =
      with_member (codes "constraints") (list_written constraint_writing list.constraints)
      (with_member (codes "nodes") (list_written node_writing list.nodes)
      (with_member (codes "constants") (list_written element list.constants) ms))

  -- all keys of the columns and the lists, and those of the hints that there are
  unfoldable pub air_writing : AirView F → Data
  air_writing air = object (with_number (codes "num_constraints") air.count (with_number (codes "max_constraint_degree") air.degree (list_writing air.list (columns_writing air.columns))))
