-- The nodes of a list as text. A node whose text is longer than 4096 bytes goes by its place where it is an operand, and has a
-- line of its own.
use Rattle.std.specs.Prelude.{ℕ, ◌+◌, ◌<◌, nat_lt, List, [], ◌∷◌, ◌++◌, codes, length, map, slice_index_or, if◌then◌else◌}
use Rattle.std.specs.Fmt.{decimal}
use Rattle.stark_tree_air.specs.declared.node.TreeNode.{TreeNode}
use Rattle.stark_tree_air.specs.declared.node.TreeNode.TheVariants.{Constant, MainCurrent, MainNext, PreprocessedCurrent, PreprocessedNext, PublicValue, PeriodicValue, FirstRow, LastRow, Transition, Sum, Difference, Product, Negation}
use Rattle.stark_show.specs.Expressions.{Written, leaf_written, entry_written, constant_written, sum_written, difference_written, product_written, negation_written}

-- What stands at a place; a selector where nothing does.
abbrev pub written_at : List Written → ℕ → Written
written_at ws k = slice_index_or ws k (leaf_written (codes "first_row"))

-- A node by the constants and by what is shown of the nodes before it.
abbrev pub node_written : {F : Type 0} → (F → ℕ) → List F → List Written → TreeNode → Written
node_written number ks ws (Constant i) = written_at (map (constant_written number) ks) i
node_written number ks ws (MainCurrent c) = entry_written (codes "main") c
node_written number ks ws (MainNext c) = entry_written (codes "next") c
node_written number ks ws (PreprocessedCurrent c) = entry_written (codes "preprocessed") c
node_written number ks ws (PreprocessedNext c) = entry_written (codes "preprocessed_next") c
node_written number ks ws (PublicValue i) = entry_written (codes "public") i
node_written number ks ws (PeriodicValue c) = entry_written (codes "periodic") c
node_written number ks ws FirstRow = leaf_written (codes "first_row")
node_written number ks ws LastRow = leaf_written (codes "last_row")
node_written number ks ws Transition = leaf_written (codes "transition")
node_written number ks ws (Sum i j) = sum_written (written_at ws i) (written_at ws j)
node_written number ks ws (Difference i j) = difference_written (written_at ws i) (written_at ws j)
node_written number ks ws (Product i j) = product_written (written_at ws i) (written_at ws j)
node_written number ks ws (Negation i) = negation_written (written_at ws i)

-- What is shown of the node at the place k.
unfoldable pub shown_written : ℕ → Written → Written
shown_written k w = if nat_lt 4096 (length w.text) then leaf_written (codes "node " ++ decimal k) else w

abbrev pub node_line : ℕ → List ℕ → List ℕ
node_line k text = codes "node " ++ (decimal k ++ (codes " = " ++ (text ++ codes "\n")))

-- The line of the node at the place k, if it is too long for an operand.
unfoldable pub long_line : ℕ → Written → List ℕ
long_line k w = if nat_lt 4096 (length w.text) then node_line k w.text else []

-- What is shown of nodes that stand after others of which `ws` is shown, and of these.
abbrev pub shown_after : {F : Type 0} → (F → ℕ) → List F → List Written → List TreeNode → List Written
shown_after number ks ws [] = ws
shown_after number ks ws (n ∷ ns) = shown_after number ks (ws ++ shown_written (length ws) (node_written number ks ws n) ∷ []) ns

-- The lines of those that are too long.
abbrev pub lines_after : {F : Type 0} → (F → ℕ) → List F → List Written → List TreeNode → List ℕ
lines_after number ks ws [] = []
lines_after number ks ws (n ∷ ns) =
    let w = node_written number ks ws n in
    long_line (length ws) w ++ lines_after number ks (ws ++ shown_written (length ws) w ∷ []) ns

-- What is shown of each node, at its place.
abbrev pub shown_nodes : {F : Type 0} → (F → ℕ) → List F → List TreeNode → List Written
shown_nodes number ks ns = shown_after number ks [] ns

abbrev pub long_lines : {F : Type 0} → (F → ℕ) → List F → List TreeNode → List ℕ
long_lines number ks ns = lines_after number ks [] ns

-- A node names one of so many constants, and operands below its place k.
abbrev pub NodeNames : ℕ → ℕ → TreeNode → Type 0
NodeNames m k (Constant i) = i < m
NodeNames m k (Sum i j) = (i < k) × (j < k)
NodeNames m k (Difference i j) = (i < k) × (j < k)
NodeNames m k (Product i j) = (i < k) × (j < k)
NodeNames m k (Negation i) = i < k
NodeNames m k _ = Unit {0}

-- Each node names such, from the place k on.
abbrev pub NodesName : ℕ → ℕ → List TreeNode → Type 0
NodesName m k [] = Unit {0}
NodesName m k (n ∷ ns) = NodeNames m k n × NodesName m (k + 1) ns
