-- Which nodes constraints need, themselves or as operands.
use Rattle.std.specs.Prelude.{ℕ, ◌+◌, ◌<◌, Bool, true, false, IsTrue, List, [], ◌∷◌, length, replicate, slice_index_or, slice_set, if◌then◌else◌}
use Rattle.stark_tree_air.specs.declared.node.TreeNode.{TreeNode}
use Rattle.stark_tree_air.specs.declared.node.TreeNode.TheVariants.{Sum, Difference, Product, Negation}
use Rattle.stark_tree_air.specs.declared.node.TreeConstraint.{TreeConstraint}
use Rattle.stark_tree_air.specs.declared.node.TreeConstraint.TheVariants.{Base, Extension}

-- There is a mark at the place.
abbrev pub Marked : List Bool → ℕ → Type 0
Marked ms k = IsTrue (slice_index_or ms k false)

-- A node's operands have marks.
abbrev pub OperandsMarked : List Bool → TreeNode → Type 0
OperandsMarked ms (Sum i j) = Marked ms i × Marked ms j
OperandsMarked ms (Difference i j) = Marked ms i × Marked ms j
OperandsMarked ms (Product i j) = Marked ms i × Marked ms j
OperandsMarked ms (Negation i) = Marked ms i
OperandsMarked ms _ = Unit {0}

-- From the place k on, the operands of a node with a mark have marks.
abbrev pub NodesMarked : List Bool → ℕ → List TreeNode → Type 0
NodesMarked ms k [] = Unit {0}
NodesMarked ms k (n ∷ ns) = (Marked ms k → OperandsMarked ms n) × NodesMarked ms (k + 1) ns

-- The place of a constraint's node.
abbrev pub constraint_place : TreeConstraint → ℕ
constraint_place (Base i) = i
constraint_place (Extension i) = i

-- The constraints' nodes have marks.
abbrev pub ConstraintsMarked : List Bool → List TreeConstraint → Type 0
ConstraintsMarked ms [] = Unit {0}
ConstraintsMarked ms (c ∷ cs) = Marked ms (constraint_place c) × ConstraintsMarked ms cs

-- A node's operands stand below the place k.
abbrev pub OperandsBelow : ℕ → TreeNode → Type 0
OperandsBelow k (Sum i j) = (i < k) × (j < k)
OperandsBelow k (Difference i j) = (i < k) × (j < k)
OperandsBelow k (Product i j) = (i < k) × (j < k)
OperandsBelow k (Negation i) = i < k
OperandsBelow k _ = Unit {0}

-- Each node's operands stand before it, from the place k on.
abbrev pub NodesBelow : ℕ → List TreeNode → Type 0
NodesBelow k [] = Unit {0}
NodesBelow k (n ∷ ns) = OperandsBelow k n × NodesBelow (k + 1) ns

abbrev pub mark_both : List Bool → ℕ → ℕ → List Bool
mark_both ms i j = slice_set (slice_set ms i true) j true

-- Marks with those of a node's operands.
abbrev pub mark_operands : List Bool → TreeNode → List Bool
mark_operands ms (Sum i j) = mark_both ms i j
mark_operands ms (Difference i j) = mark_both ms i j
mark_operands ms (Product i j) = mark_both ms i j
mark_operands ms (Negation i) = slice_set ms i true
mark_operands ms _ = ms

-- Marks with those of the constraints' nodes.
abbrev pub mark_constraints : List Bool → List TreeConstraint → List Bool
mark_constraints ms [] = ms
mark_constraints ms (c ∷ cs) = mark_constraints (slice_set ms (constraint_place c) true) cs

-- Marks with those of the operands of each node that has one, from the last node to that at the place k.
abbrev pub mark_nodes : List Bool → ℕ → List TreeNode → List Bool
mark_nodes ms k [] = ms
mark_nodes ms k (n ∷ ns) = (if slice_index_or (mark_nodes ms (k + 1) ns) k false then mark_operands (mark_nodes ms (k + 1) ns) n else mark_nodes ms (k + 1) ns)

-- A mark for each node that the constraints need, and none for any other.
abbrev pub needed : List TreeNode → List TreeConstraint → List Bool
needed ns cs = mark_nodes (mark_constraints (replicate (length ns) false) cs) 0 ns
