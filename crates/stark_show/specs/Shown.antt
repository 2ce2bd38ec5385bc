-- The text that shows an AIR.
use Rattle.std.specs.Prelude.{◌≡◌, ℕ, List, [], ◌++◌, length, map, Option, None, Some}
use Rattle.std.specs.List.{slice_get}
use Rattle.std.specs.String.{string_bytes}
use Rattle.stark_air.specs.Declaration.{trace_width}
use Rattle.stark_symbolic.specs.Degree.{degree}
use Rattle.stark_security.specs.ErrorBound.{IsChunkCount, IsErrorBound}
use Rattle.stark_tree_air.specs.Nodes.{nodes_trees, spelled}
use Rattle.stark_tree_air.specs.TreeJson.{ListView}
use Rattle.stark_tree_air.specs.Traces.{declared_trace}
use Rattle.stark_tree_air.specs.declared.columns.TreeColumns.{TreeColumns}
use Rattle.stark_tree_air.specs.declared.columns.TreeDeclaration.{TreeDeclaration}
use Rattle.stark_tree_air.specs.declared.list.TreeList.{TreeList}
use Rattle.stark_tree_air.specs.declared.node.TreeConstraint.{TreeConstraint}
use Rattle.stark_show.specs.declared.text.Sections.{Sections}
use Rattle.stark_show.specs.Lines.{bound_line, chunks_line, columns_line, constraint_lines, numbered_line}
use Rattle.stark_show.specs.ShownNodes.{long_lines, shown_nodes}
use Rattle.stark_show.specs.Whole.{AreShort, tree_lines}

-- The line of the columns.
unfoldable pub columns_text : {F : Type 0} → TreeColumns F → List ℕ
columns_text columns = columns_line columns.width columns.num_public_values (length columns.periodic_columns.items) (trace_width (declared_trace columns.preprocessed_trace))

-- A line for each constraint: its number, its kind, the degree of its tree with 0 for the transition selector, and its equation.
unfoldable pub constraints_text : {F : Type 0} → (F → ℕ) → TreeList F → List ℕ
constraints_text number list =
    let ks = list.constants.items in
    let ns = list.nodes.items in
    constraint_lines (shown_nodes number ks ns) (map (degree 0) (nodes_trees ks ns)) 0 list.constraints.items

-- A line for each node that is too long for an operand.
unfoldable pub long_text : {F : Type 0} → (F → ℕ) → TreeList F → List ℕ
long_text number list = long_lines number list.constants.items list.nodes.items

-- The line of a constraint over a list's nodes.
abbrev pub listed_line : {F : Type 0} → (F → ℕ) → ListView F → ℕ → TreeConstraint → List ℕ
listed_line number list k c = numbered_line (shown_nodes number list.constants list.nodes) (map (degree 0) (nodes_trees list.constants list.nodes)) k c

-- The line of a constraint where there is one, and else nothing.
abbrev pub line_if_any : {F : Type 0} → (F → ℕ) → ListView F → ℕ → Option TreeConstraint → List ℕ
line_if_any number list k None = []
line_if_any number list k (Some c) = listed_line number list k c

-- The line of a list's constraint of this number; nothing where there is no such constraint.
unfoldable pub equation_line : {F : Type 0} → (F → ℕ) → ListView F → ℕ → List ℕ
equation_line number list k = line_if_any number list k (slice_get list.constraints k)

-- The parts one after the other.
abbrev pub sections_text : Sections → List ℕ
sections_text s = string_bytes s.columns ++ (string_bytes s.constraints ++ (string_bytes s.long ++ (string_bytes s.chunks ++ string_bytes s.bound)))

-- An AIR's columns, its constraints, its long nodes, how many chunks its quotient is cut into without masks, and how many draws
-- can be bad at 2 ^ log_height rows without masks.
pub record IsShown {F : Type 0} (number : F → ℕ) (declaration : TreeDeclaration F) (list : TreeList F) (log_height : ℕ) (text : List ℕ) : Type 0 where
  pub chunks : ℕ
  pub bound : Option (ℕ × ℕ)
  pub sized : IsChunkCount 0 (spelled list.constants.items list.nodes.items list.constraints.items) declaration.max_constraint_degree 0 chunks
  pub bounded : IsErrorBound (spelled list.constants.items list.nodes.items list.constraints.items) declaration.max_constraint_degree log_height 0 bound
  pub lines : text ≡ columns_text declaration.columns ++ (constraints_text number list ++ (long_text number list ++ (chunks_line chunks ++ bound_line log_height bound)))

-- Where no equation is longer than 4096 bytes, the text begins with the columns and the constraints by their trees alone.
pub record IsWhole {F : Type 0} (number : F → ℕ) (declaration : TreeDeclaration F) (list : TreeList F) (text : List ℕ) : Type 0 where
  pub whole : AreShort number (spelled list.constants.items list.nodes.items list.constraints.items) → (rest : List ℕ)
      × (text ≡ columns_text declaration.columns ++ (tree_lines number 0 (spelled list.constants.items list.nodes.items list.constraints.items) ++ rest))
