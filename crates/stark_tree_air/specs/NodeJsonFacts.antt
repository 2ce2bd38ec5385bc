-- What is written of a node or a constraint is read back.
use Rattle.std.specs.Prelude.{◌≡◌, Some, refl}
use Rattle.stark_tree_air.specs.NodeJson.{selector_named, single_named, pair_named, node_reading, node_writing, constraint_reading, constraint_writing}
use Rattle.stark_tree_air.specs.declared.node.TreeNode.{TreeNode}
use Rattle.stark_tree_air.specs.declared.node.TreeNode.TheVariants.{Constant, MainCurrent, MainNext, PreprocessedCurrent, PreprocessedNext, PublicValue, PeriodicValue, FirstRow, LastRow, Transition, Sum, Difference, Product, Negation}
use Rattle.stark_tree_air.specs.declared.node.TreeConstraint.{TreeConstraint}
use Rattle.stark_tree_air.specs.declared.node.TreeConstraint.TheVariants.{Base, Extension}

pub node_back : (n : TreeNode) → node_reading (node_writing n) ≡ Some n
unfolding selector_named single_named pair_named
node_back (Constant i) = refl
node_back (MainCurrent i) = refl
node_back (MainNext i) = refl
node_back (PreprocessedCurrent i) = refl
node_back (PreprocessedNext i) = refl
node_back (PublicValue i) = refl
node_back (PeriodicValue i) = refl
node_back FirstRow = refl
node_back LastRow = refl
node_back Transition = refl
node_back (Sum i j) = refl
node_back (Difference i j) = refl
node_back (Product i j) = refl
node_back (Negation i) = refl

pub constraint_back : (c : TreeConstraint) → constraint_reading (constraint_writing c) ≡ Some c
constraint_back (Base i) = refl
constraint_back (Extension i) = refl
