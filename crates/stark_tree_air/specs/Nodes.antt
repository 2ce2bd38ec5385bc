-- Lists of nodes, the trees that they spell, and values that stand for these.
use Rattle.std.specs.Prelude.{ℕ, suc, ◌+◌, ◌<◌, Bool, List, [], ◌∷◌, ◌++◌, map}
use Rattle.std.specs.Prelude.{slice_index_or}
use Rattle.stark_support.specs.Operations.{Operations}
use Rattle.stark_air.specs.Layout.{Layout}
use Rattle.stark_air.specs.Tree.{Tree, Constraint, base, extension, constant, main_current, main_next, preprocessed_current, preprocessed_next, public_value, periodic_value, first_row, last_row, transition, sum, difference, product, negation}
use Rattle.stark_air.specs.Value.{Environment, value}
use Rattle.stark_tree_air.specs.Needed.{Marked, OperandsMarked, constraint_place}
use Rattle.stark_tree_air.specs.declared.node.TreeNode.{TreeNode}
use Rattle.stark_tree_air.specs.declared.node.TreeNode.TheVariants.{Constant, MainCurrent, MainNext, PreprocessedCurrent, PreprocessedNext, PublicValue, PeriodicValue, FirstRow, LastRow, Transition, Sum, Difference, Product, Negation}
use Rattle.stark_tree_air.specs.declared.node.TreeConstraint.{TreeConstraint}
use Rattle.stark_tree_air.specs.declared.node.TreeConstraint.TheVariants.{Base, Extension}

-- The tree at a place; a selector where there is none, which no fitting node or constraint names.
abbrev pub tree_at : {F : Type 0} → List (Tree F) → ℕ → Tree F
tree_at ts k = slice_index_or ts k first_row

-- The tree of a node, by the constants and the trees of the nodes before it.
abbrev pub node_tree : {F : Type 0} → List F → List (Tree F) → TreeNode → Tree F
node_tree ks ts (Constant i) = tree_at (map constant ks) i
node_tree ks ts (MainCurrent c) = main_current c
node_tree ks ts (MainNext c) = main_next c
node_tree ks ts (PreprocessedCurrent c) = preprocessed_current c
node_tree ks ts (PreprocessedNext c) = preprocessed_next c
node_tree ks ts (PublicValue i) = public_value i
node_tree ks ts (PeriodicValue c) = periodic_value c
node_tree ks ts FirstRow = first_row
node_tree ks ts LastRow = last_row
node_tree ks ts Transition = transition
node_tree ks ts (Sum i j) = sum (tree_at ts i) (tree_at ts j)
node_tree ks ts (Difference i j) = difference (tree_at ts i) (tree_at ts j)
node_tree ks ts (Product i j) = product (tree_at ts i) (tree_at ts j)
node_tree ks ts (Negation i) = negation (tree_at ts i)

-- The trees of nodes that stand after others with these trees, and theirs before them.
abbrev pub trees_after : {F : Type 0} → List F → List (Tree F) → List TreeNode → List (Tree F)
trees_after ks ts [] = ts
trees_after ks ts (n ∷ ns) = trees_after ks (ts ++ node_tree ks ts n ∷ []) ns

-- The trees of the nodes, each at its node's place.
abbrev pub nodes_trees : {F : Type 0} → List F → List TreeNode → List (Tree F)
nodes_trees ks ns = trees_after ks [] ns

-- The constraint whose tree stands at a place.
abbrev pub marked_tree : {F : Type 0} → List (Tree F) → TreeConstraint → Constraint F
marked_tree ts (Base i) = base (tree_at ts i)
marked_tree ts (Extension i) = extension (tree_at ts i)

-- The constraints that constants and nodes spell.
abbrev pub spelled : {F : Type 0} → List F → List TreeNode → List TreeConstraint → List (Constraint F)
spelled ks ns cs = map (marked_tree (nodes_trees ks ns)) cs

-- The leaf is there, among so many constants and in the layout, and operands stand below the place k of their node.
abbrev pub NodeFits : Layout → ℕ → ℕ → TreeNode → Type 0
NodeFits l m k (Constant i) = i < m
NodeFits l m k (MainCurrent c) = c < l.main
NodeFits l m k (MainNext c) = c < l.main_next
NodeFits l m k (PreprocessedCurrent c) = c < l.preprocessed
NodeFits l m k (PreprocessedNext c) = c < l.preprocessed_next
NodeFits l m k (PublicValue i) = i < l.public_values
NodeFits l m k (PeriodicValue c) = c < l.periodics
NodeFits l m k FirstRow = Unit {0}
NodeFits l m k LastRow = Unit {0}
NodeFits l m k Transition = Unit {0}
NodeFits l m k (Sum i j) = (i < k) × (j < k)
NodeFits l m k (Difference i j) = (i < k) × (j < k)
NodeFits l m k (Product i j) = (i < k) × (j < k)
NodeFits l m k (Negation i) = i < k

-- Each node fits, from the place k on.
abbrev pub NodesFit : Layout → ℕ → ℕ → List TreeNode → Type 0
NodesFit l m k [] = Unit {0}
NodesFit l m k (n ∷ ns) = NodeFits l m k n × NodesFit l m (suc k) ns

-- There is a node at the constraint's place.
abbrev pub ConstraintFits : ℕ → TreeConstraint → Type 0
ConstraintFits count (Base i) = i < count
ConstraintFits count (Extension i) = i < count

abbrev pub ConstraintsFit : ℕ → List TreeConstraint → Type 0
ConstraintsFit count [] = Unit {0}
ConstraintsFit count (c ∷ cs) = ConstraintFits count c × ConstraintsFit count cs

-- One value for each tree; from the place k on, a value with a mark stands for its tree.
abbrev pub EachStands : {F : Type 0} {E : Type 0} → (E → E → Type 0) → Operations F E → Environment E → List Bool → ℕ → List (Tree F) → List E → Type 0
EachStands stands o e ms k [] [] = Unit {0}
EachStands stands o e ms k [] (x ∷ xs) = ⊥
EachStands stands o e ms k (t ∷ ts) [] = ⊥
EachStands stands o e ms k (t ∷ ts) (x ∷ xs) = (Marked ms k → stands (value o e t) x) × EachStands stands o e ms (k + 1) ts xs

-- Each value with a mark stands for that of the tree at its place, and there are as many values as trees.
pub record Stand {F : Type 0} {E : Type 0} (stands : E → E → Type 0) (o : Operations F E) (e : Environment E) (ms : List Bool) (ts : List (Tree F)) (xs : List E) : Type 0 where
  pub each : EachStands stands o e ms 0 ts xs

-- ---- what is computed of nodes

-- Wherever values stand for the trees of nodes, this one stands for that of a needed node.
abbrev pub StandsForNode : {F E : Type 0} → (E → E → Type 0) → Operations F E → List E → ℕ → E → Type 0
StandsForNode {F} {E} stands o values index x = (e : Environment E) (ms : List Bool) (ts : List (Tree F))
    → Stand stands o e ms ts values → Marked ms index → stands (value o e (tree_at ts index)) x

-- Wherever they do, this one stands for the node made of them.
abbrev pub StandsForMade : {F E : Type 0} → (E → E → Type 0) → Operations F E → Environment E → List F → List E → TreeNode → E → Type 0
StandsForMade {F} stands o e constants values node x = (ms : List Bool) (ts : List (Tree F))
    → Stand stands o e ms ts values → OperandsMarked ms node → stands (value o e (node_tree constants ts node)) x

-- Whatever trees the nodes have, the constraint was asserted of the tree that the value stands for.
abbrev pub AssertsNode : {F S E : Type 0} → Operations F E → (E → E → Type 0) → (S → Environment E) → (S → List (Constraint F) → S → Type 0)
    → TreeConstraint → S → E → S → Type 0
AssertsNode {F} o stands environment after constraint s x t = (ts : List (Tree F))
    → stands (value o (environment s) (tree_at ts (constraint_place constraint))) x → after s (marked_tree ts constraint ∷ []) t
