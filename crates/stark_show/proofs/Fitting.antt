-- Nodes that fit name what is there.
use Rattle.std.proofs.Common.{◌≡◌, ℕ, zero, suc, ◌+◌, ◌<◌, List, [], ◌∷◌, Some, subst, arith}
use Rattle.std.specs.List.{slice_get}
use Rattle.stark_tree_air.proofs.NeededSteps.{place_fits}
use Rattle.stark_air.specs.Layout.{Layout}
use Rattle.stark_tree_air.specs.Needed.{NodesBelow, OperandsBelow, constraint_place}
use Rattle.stark_tree_air.specs.Nodes.{ConstraintsFit, NodeFits, NodesFit}
use Rattle.stark_tree_air.specs.declared.node.TreeConstraint.{TreeConstraint}
use Rattle.stark_tree_air.specs.declared.node.TreeNode.{TreeNode}
use Rattle.stark_tree_air.specs.declared.node.TreeNode.TheVariants.{Constant, Sum, Difference, Product, Negation}
use Rattle.stark_show.specs.ShownNodes.{NodeNames, NodesName}

next_place : (k : ℕ) → suc k ≡ k + 1
next_place k = omega arith

node_names : (l : Layout) (m k : ℕ) (n : TreeNode) → NodeFits l m k n → NodeNames m k n
node_names l m k (Constant i) f = f
node_names l m k (Sum i j) f = f
node_names l m k (Difference i j) f = f
node_names l m k (Product i j) f = f
node_names l m k (Negation i) f = f
node_names l m k n f = tt

pub nodes_name : (l : Layout) (m k : ℕ) (ns : List TreeNode) → NodesFit l m k ns → NodesName m k ns
nodes_name l m k [] f = tt
nodes_name l m k (n ∷ ns) f = (node_names l m k n f.0, subst (λ j. NodesName m j ns) (next_place k) (nodes_name l m (suc k) ns f.1))

operands_below : (m k : ℕ) (n : TreeNode) → NodeNames m k n → OperandsBelow k n
operands_below m k (Sum i j) f = f
operands_below m k (Difference i j) f = f
operands_below m k (Product i j) f = f
operands_below m k (Negation i) f = f
operands_below m k n f = tt

pub nodes_below : (m k : ℕ) (ns : List TreeNode) → NodesName m k ns → NodesBelow k ns
nodes_below m k [] f = tt
nodes_below m k (n ∷ ns) f = (operands_below m k n f.0, nodes_below m (k + 1) ns f.1)

-- The place of a constraint that is there is one of the nodes'.
pub place_within : (count : ℕ) (cs : List TreeConstraint) (k : ℕ) (c : TreeConstraint) → ConstraintsFit count cs → slice_get cs k ≡ Some c → constraint_place c < count
place_within count [] k c fit is = absurd (cc)
place_within count (d ∷ cs) zero c fit is = let same : d ≡ c = cc in subst (λ e. constraint_place e < count) same (place_fits count d fit.0)
place_within count (d ∷ cs) (suc k) c fit is = place_within count cs k c fit.1 is
