-- Expressions written as nodes behind others.
use Rattle.std.specs.Prelude.{◌≡◌, ℕ, zero, suc, nat_lt, ◌&&◌, Bool, true, List, [], ◌∷◌, ◌++◌, length, map, Option, None, Some}
use Rattle.stark_support.specs.Ring.{RingOps}
use Rattle.stark_symbolic.specs.ConstantFolding.{constants_folded}
use Rattle.stark_air.specs.Layout.{Layout, TreeWithin}
use Rattle.stark_air.specs.Tree.{Tree, Constraint, base, extension, constant, main_current, main_next, preprocessed_current, preprocessed_next, public_value, periodic_value, first_row, last_row, transition, sum, difference, product, negation}
use Rattle.stark_symbolic.specs.declared.builder.SymbolicConstraint.{SymbolicConstraint}
use Rattle.stark_symbolic.specs.declared.builder.SymbolicConstraint.TheVariants as symbolic
use Rattle.stark_tree_air.specs.Nodes.{nodes_trees, NodesFit, ConstraintsFit, marked_tree, spelled}
use Rattle.stark_tree_air.specs.declared.list.TreeList.{TreeList}
use Rattle.stark_symbolic.specs.declared.variable.BaseEntry.{BaseEntry}
use Rattle.stark_symbolic.specs.declared.variable.BaseEntry.TheVariants.{Main, Preprocessed, Public, Periodic}
use Rattle.stark_tree_air.specs.declared.node.TreeNode.{TreeNode}
use Rattle.stark_tree_air.specs.declared.node.TreeNode.TheVariants.{MainCurrent, MainNext, PreprocessedCurrent, PreprocessedNext, PublicValue, PeriodicValue}

-- The expression of a constraint, with its mark.
abbrev pub expressed : {F : Type 0} → Constraint F → SymbolicConstraint F
expressed (base t) = symbolic.Base (Some t)
expressed (extension t) = symbolic.Extension (Some t)

-- The constraint with constants folded.
abbrev pub folded : {F : Type 0} → RingOps F → Constraint F → Constraint F
folded ring (base t) = base (constants_folded ring t)
folded ring (extension t) = extension (constants_folded ring t)

-- The node of a variable: offset 0 is the current row, and any other the next.
abbrev pub variable_leaf : BaseEntry → ℕ → TreeNode
variable_leaf (Main zero) c = MainCurrent c
variable_leaf (Main (suc k)) c = MainNext c
variable_leaf (Preprocessed zero) c = PreprocessedCurrent c
variable_leaf (Preprocessed (suc k)) c = PreprocessedNext c
variable_leaf Public c = PublicValue c
variable_leaf Periodic c = PeriodicValue c

-- Whether the layout has every leaf of a tree.
abbrev pub tree_within : {F : Type 0} → Layout → Tree F → Bool
tree_within l (constant k) = true
tree_within l (main_current c) = nat_lt c l.main
tree_within l (main_next c) = nat_lt c l.main_next
tree_within l (preprocessed_current c) = nat_lt c l.preprocessed
tree_within l (preprocessed_next c) = nat_lt c l.preprocessed_next
tree_within l (public_value i) = nat_lt i l.public_values
tree_within l (periodic_value c) = nat_lt c l.periodics
tree_within l first_row = true
tree_within l last_row = true
tree_within l transition = true
tree_within l (sum t u) = tree_within l t && tree_within l u
tree_within l (difference t u) = tree_within l t && tree_within l u
tree_within l (product t u) = tree_within l t && tree_within l u
tree_within l (negation t) = tree_within l t

-- An expression reads within a layout; one that was refused memory reads nothing.
abbrev pub expression_within : {F : Type 0} → Layout → Option (Tree F) → Bool
expression_within l None = true
expression_within l (Some t) = tree_within l t

abbrev pub constraint_within : {F : Type 0} → Layout → SymbolicConstraint F → Bool
constraint_within l (symbolic.Base x) = expression_within l x
constraint_within l (symbolic.Extension x) = expression_within l x

abbrev pub all_within : {F : Type 0} → Layout → List (SymbolicConstraint F) → Bool
all_within l [] = true
all_within l (x ∷ xs) = constraint_within l x && all_within l xs

-- Constants and nodes spell these trees, one at each node's place, and fit the layout.
pub record Holds {F : Type 0} (l : Layout) (ks : List F) (ns : List TreeNode) (ts : List (Tree F)) : Type 0 where
  pub trees : nodes_trees ks ns ≡ ts
  pub fit : NodesFit l (length ks) 0 ns

-- A tree was written behind others, and stands at the last place.
pub record Behind {F : Type 0} (l : Layout) (ts : List (Tree F)) (t : Tree F) (p : ℕ) (ks : List F) (ns : List TreeNode) : Type 0 where
  pub more : List (Tree F)
  pub holds : Holds l ks ns ((ts ++ more) ++ t ∷ [])
  pub place : p ≡ length (ts ++ more)

-- Over every layout that has its leaves.
pub record WritesTree {F : Type 0} (t : Tree F) (old : TreeList F) (p : ℕ) (new : TreeList F) : Type 0 where
  pub behind : (l : Layout) (ts : List (Tree F)) → Holds l old.constants.items old.nodes.items ts → TreeWithin l t → Behind l ts t p new.constants.items new.nodes.items

-- What was written is the tree of an expression.
abbrev pub Writes : {F : Type 0} → Option (Tree F) → TreeList F → ℕ → TreeList F → Type 0
Writes None old p new = ⊥
Writes (Some t) old p new = WritesTree t old p new

-- A list spells the constraints, and its nodes and places fit.
pub record Spells {F : Type 0} (l : Layout) (list : TreeList F) (cs : List (Constraint F)) : Type 0 where
  pub trees : List (Tree F)
  pub holds : Holds l list.constants.items list.nodes.items trees
  pub spelled : map (marked_tree trees) list.constraints.items ≡ cs
  pub fit : ConstraintsFit (length trees) list.constraints.items

-- One more constraint is spelled.
pub record OneMore {F : Type 0} (x : SymbolicConstraint F) (old : TreeList F) (new : TreeList F) : Type 0 where
  pub constraint : Constraint F
  pub expressed : expressed constraint ≡ x
  pub spells : (l : Layout) (cs : List (Constraint F)) → constraint_within l x ≡ true → Spells l old cs → Spells l new (cs ++ constraint ∷ [])

-- A list spells the constraints that these expressions are.
pub record SpellsAll {F : Type 0} (l : Layout) (list : TreeList F) (xs : List (SymbolicConstraint F)) : Type 0 where
  pub constraints : List (Constraint F)
  pub expressed : map expressed constraints ≡ xs
  pub spells : Spells l list constraints

-- The list spells the constraints, whatever layout they read within.
abbrev pub SpellsWithin : {F : Type 0} → TreeList F → List (SymbolicConstraint F) → Type 0
SpellsWithin list cs = (l : Layout) → all_within l cs ≡ true → SpellsAll l list cs

-- The constraints that a list spells.
abbrev pub spelled_in : {F : Type 0} → TreeList F → List (Constraint F)
spelled_in list = spelled list.constants.items list.nodes.items list.constraints.items
