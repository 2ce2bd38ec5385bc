-- The degrees of the nodes of a list.
use Rattle.std.specs.Prelude.{ℕ, ◌+◌, max, List, [], ◌∷◌, ◌++◌, slice_index_or}
use Rattle.stark_symbolic.specs.Degree.{saturated}
use Rattle.stark_tree_air.specs.declared.node.TreeNode.{TreeNode}
use Rattle.stark_tree_air.specs.declared.node.TreeNode.TheVariants.{Constant, MainCurrent, MainNext, PreprocessedCurrent, PreprocessedNext, PublicValue, PeriodicValue, FirstRow, LastRow, Transition, Sum, Difference, Product, Negation}

abbrev pub degree_at : List ℕ → ℕ → ℕ
degree_at ds k = slice_index_or ds k 0

-- The degree of a node by the degrees of the nodes before it, with 0 for the transition selector.
abbrev pub node_degree : List ℕ → TreeNode → ℕ
node_degree ds (Constant i) = 0
node_degree ds (MainCurrent c) = 1
node_degree ds (MainNext c) = 1
node_degree ds (PreprocessedCurrent c) = 1
node_degree ds (PreprocessedNext c) = 1
node_degree ds (PublicValue i) = 0
node_degree ds (PeriodicValue c) = 1
node_degree ds FirstRow = 1
node_degree ds LastRow = 1
node_degree ds Transition = 0
node_degree ds (Sum i j) = max (degree_at ds i) (degree_at ds j)
node_degree ds (Difference i j) = max (degree_at ds i) (degree_at ds j)
node_degree ds (Product i j) = saturated (degree_at ds i + degree_at ds j)
node_degree ds (Negation i) = degree_at ds i

-- The degrees of nodes that stand after others with these degrees, and theirs before them.
abbrev pub degrees_after : List ℕ → List TreeNode → List ℕ
degrees_after ds [] = ds
degrees_after ds (n ∷ ns) = degrees_after (ds ++ node_degree ds n ∷ []) ns
