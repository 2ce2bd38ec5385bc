-- The tree that a symbolic expression has.
use Rattle.std.specs.Prelude.{ℕ, Option, Some, None}
use Rattle.std.proofs.Common.{zero, suc}
use Rattle.stark_air.specs.Tree.{Tree, constant, main_current, main_next, preprocessed_current, preprocessed_next, public_value, periodic_value, first_row, last_row, transition, sum, difference, product, negation}
use Rattle.stark_symbolic.specs.Symbolic.{pair_node, single_node}
use Rattle.stark_symbolic.specs.declared.variable.BaseEntry.{BaseEntry}
use Rattle.stark_symbolic.specs.declared.variable.BaseEntry.TheVariants.{Main, Preprocessed, Public, Periodic}
use Rattle.stark_symbolic.specs.declared.expression.SymbolicNode.{SymbolicNode, Constant, Variable, IsFirstRow, IsLastRow, IsTransition, Sum', Difference', Product', Negation', Refused}

-- Offset 0 is the current row, and any other the next.
abbrev pub variable_tree : {F : Type 0} → BaseEntry → ℕ → Tree F
variable_tree (Main zero) c = main_current c
variable_tree (Main (suc k)) c = main_next c
variable_tree (Preprocessed zero) c = preprocessed_current c
variable_tree (Preprocessed (suc k)) c = preprocessed_next c
variable_tree Public c = public_value c
variable_tree Periodic c = periodic_value c

-- No tree where memory was refused.
abbrev pub tree_of : {F : Type 0} → SymbolicNode F → Option (Tree F)
tree_of (Constant k) = Some (constant k)
tree_of (Variable v) = Some (variable_tree v.entry v.index)
tree_of (IsFirstRow g) = Some first_row
tree_of (IsLastRow g) = Some last_row
tree_of (IsTransition g) = Some transition
tree_of (Sum' p x q y) = pair_node sum (tree_of x) (tree_of y)
tree_of (Difference' p x q y) = pair_node difference (tree_of x) (tree_of y)
tree_of (Product' p x q y) = pair_node product (tree_of x) (tree_of y)
tree_of (Negation' p x) = single_node negation (tree_of x)
tree_of Refused = None
