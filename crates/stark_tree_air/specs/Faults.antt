-- What nodes read, and the first fault of nodes and constraints.
use Rattle.std.specs.Prelude.{ℕ, ◌+◌, nat_lt, Bool, true, false, List, [], ◌∷◌, length, Option, None, Some, if◌then◌else◌}
use Rattle.std.specs.Option.{option_or}
use Rattle.stark_air.specs.Declaration.{trace_width}
use Rattle.stark_air.specs.Layout.{Layout}
use Rattle.stark_tree_air.specs.Traces.{declared_trace}
use Rattle.stark_tree_air.specs.declared.columns.TreeColumns.{TreeColumns}
use Rattle.stark_tree_air.specs.declared.error.TreeAirError.{TreeAirError}
use Rattle.stark_tree_air.specs.declared.error.TreeAirError.TheVariants.{LeafOutside, LaterOperand, NoSuchNode}
use Rattle.stark_tree_air.specs.declared.fault.TreeCounts.{TreeCounts}
use Rattle.stark_tree_air.specs.declared.node.TreeNode.{TreeNode}
use Rattle.stark_tree_air.specs.declared.node.TreeNode.TheVariants.{Constant, MainCurrent, MainNext, PreprocessedCurrent, PreprocessedNext, PublicValue, PeriodicValue, FirstRow, LastRow, Transition, Sum, Difference, Product, Negation}
use Rattle.stark_tree_air.specs.declared.node.TreeConstraint.{TreeConstraint}
use Rattle.stark_tree_air.specs.declared.node.TreeConstraint.TheVariants.{Base, Extension}

abbrev pub is_main_next : TreeNode → Bool
is_main_next (MainNext c) = true
is_main_next _ = false

abbrev pub is_preprocessed_next : TreeNode → Bool
is_preprocessed_next (PreprocessedNext c) = true
is_preprocessed_next _ = false

-- A node is a main column in the next row.
abbrev pub reads_main_next : List TreeNode → Bool
reads_main_next [] = false
reads_main_next (n ∷ ns) = (if is_main_next n then true else reads_main_next ns)

-- A node is a preprocessed column in the next row.
abbrev pub reads_preprocessed_next : List TreeNode → Bool
reads_preprocessed_next [] = false
reads_preprocessed_next (n ∷ ns) = (if is_preprocessed_next n then true else reads_preprocessed_next ns)

-- The columns and values that there are, and a next row where a node reads one.
abbrev pub tree_layout : {F : Type 0} → TreeColumns F → List TreeNode → Layout
tree_layout columns ns =
    let preprocessed = trace_width (declared_trace columns.preprocessed_trace) in
    record {
      main = columns.width;
      main_next = (if reads_main_next ns then columns.width else 0);
      preprocessed = preprocessed;
      preprocessed_next = (if reads_preprocessed_next ns then preprocessed else 0);
      public_values = columns.num_public_values;
      periodics = length columns.periodic_columns.items;
    }

abbrev pub counted_layout : TreeCounts → Layout
counted_layout c = record { main = c.main; main_next = c.main_next; preprocessed = c.preprocessed; preprocessed_next = c.preprocessed_next; public_values = c.public_values; periodics = c.periodics }

-- The column of a node that is a main column in the next row.
abbrev pub main_next_column : TreeNode → Option ℕ
main_next_column (MainNext c) = Some c
main_next_column _ = None

-- The column of a node that is a preprocessed column in the next row.
abbrev pub preprocessed_next_column : TreeNode → Option ℕ
preprocessed_next_column (PreprocessedNext c) = Some c
preprocessed_next_column _ = None

abbrev pub leaf_fault : ℕ → ℕ → ℕ → Option TreeAirError
leaf_fault node index count = (if nat_lt index count then None else Some (LeafOutside node))

abbrev pub operand_fault : ℕ → ℕ → Option TreeAirError
operand_fault node operand = (if nat_lt operand node then None else Some (LaterOperand node))

-- What is wrong with the node at the place k, over so many constants.
abbrev pub node_fault : Layout → ℕ → ℕ → TreeNode → Option TreeAirError
node_fault l m k (Constant i) = leaf_fault k i m
node_fault l m k (MainCurrent c) = leaf_fault k c l.main
node_fault l m k (MainNext c) = leaf_fault k c l.main_next
node_fault l m k (PreprocessedCurrent c) = leaf_fault k c l.preprocessed
node_fault l m k (PreprocessedNext c) = leaf_fault k c l.preprocessed_next
node_fault l m k (PublicValue i) = leaf_fault k i l.public_values
node_fault l m k (PeriodicValue c) = leaf_fault k c l.periodics
node_fault l m k FirstRow = None
node_fault l m k LastRow = None
node_fault l m k Transition = None
node_fault l m k (Sum i j) = option_or (operand_fault k i) (operand_fault k j)
node_fault l m k (Difference i j) = option_or (operand_fault k i) (operand_fault k j)
node_fault l m k (Product i j) = option_or (operand_fault k i) (operand_fault k j)
node_fault l m k (Negation i) = operand_fault k i

-- The fault of the first node that has one, of nodes that stand from the place k on.
abbrev pub first_node_fault : Layout → ℕ → ℕ → List TreeNode → Option TreeAirError
first_node_fault l m k [] = None
first_node_fault l m k (n ∷ ns) = option_or (node_fault l m k n) (first_node_fault l m (k + 1) ns)

abbrev pub constraint_fault : ℕ → ℕ → TreeConstraint → Option TreeAirError
constraint_fault count k (Base i) = (if nat_lt i count then None else Some (NoSuchNode k))
constraint_fault count k (Extension i) = (if nat_lt i count then None else Some (NoSuchNode k))

-- The first fault of constraints over so many nodes.
abbrev pub first_constraint_fault : ℕ → ℕ → List TreeConstraint → Option TreeAirError
first_constraint_fault count k [] = None
first_constraint_fault count k (c ∷ cs) = option_or (constraint_fault count k c) (first_constraint_fault count (k + 1) cs)

-- The first fault of constants, nodes and constraints over the columns.
abbrev pub tree_air_fault : {F : Type 0} → TreeColumns F → List F → List TreeNode → List TreeConstraint → Option TreeAirError
tree_air_fault columns ks ns cs = option_or (first_node_fault (tree_layout columns ns) (length ks) 0 ns) (first_constraint_fault (length ns) 0 cs)
