-- The degrees of nodes are those of their trees.
use Rattle.std.proofs.Common.{◌≡◌, ◌∙◌, ℕ, zero, suc, ◌+◌, ◌<◌, max, List, [], ◌∷◌, ◌++◌, length, map, refl, sym, ap, subst, arith}
use Rattle.std.proofs.lemmas.List.{get_or-map}
use Rattle.stark_symbolic.specs.Degree.{degree, saturated}
use Rattle.stark_air.specs.Tree.{Tree, constant, first_row}
use Rattle.stark_tree_air.specs.Nodes.{node_tree, nodes_trees, tree_at, trees_after}
use Rattle.stark_tree_air.specs.declared.node.TreeNode.{TreeNode}
use Rattle.stark_tree_air.specs.declared.node.TreeNode.TheVariants.{Constant, MainCurrent, MainNext, PreprocessedCurrent, PreprocessedNext, PublicValue, PeriodicValue, FirstRow, LastRow, Transition, Sum, Difference, Product, Negation}
use Rattle.stark_show.specs.NodeDegrees.{degree_at, degrees_after, node_degree}
use Rattle.stark_show.specs.ShownNodes.{NodeNames, NodesName}
use Rattle.stark_show.proofs.Passes.{one_longer}

map_more : {A B : Type 0} (f : A → B) (xs : List A) (x : A) → map f (xs ++ x ∷ []) ≡ map f xs ++ f x ∷ []
map_more f [] x = refl
map_more f (y ∷ xs) x = ap (λ t. f y ∷ t) (map_more f xs x)

constant_degree : {F : Type 0} (ks : List F) (i : ℕ) → i < length ks → degree 0 (tree_at (map constant ks) i) ≡ 0
constant_degree [] i within = absurd (omega arith)
constant_degree (k ∷ ks) zero within = refl
constant_degree (k ∷ ks) (suc i) within = constant_degree ks i (omega arith)

module _ {F : Type 0} (ts : List (Tree F)) where
  at_tree : (i : ℕ) → i < length ts → degree_at (map (degree 0) ts) i ≡ degree 0 (tree_at ts i)
  at_tree i within = get_or-map (degree 0) ts i first_row 0 within

  both_trees : (join : ℕ → ℕ → ℕ) (i j : ℕ) → (i < length ts) × (j < length ts) → join (degree_at (map (degree 0) ts) i) (degree_at (map (degree 0) ts) j) ≡ join (degree 0 (tree_at ts i)) (degree 0 (tree_at ts j))
  both_trees join i j within = ap (λ d. join d (degree_at (map (degree 0) ts) j)) (at_tree i within.0) ∙ ap (join (degree 0 (tree_at ts i))) (at_tree j within.1)

  degree_is : (ks : List F) (n : TreeNode) → NodeNames (length ks) (length ts) n → node_degree (map (degree 0) ts) n ≡ degree 0 (node_tree ks ts n)
  degree_is ks (Constant i) f = sym (constant_degree ks i f)
  degree_is ks (MainCurrent c) f = refl
  degree_is ks (MainNext c) f = refl
  degree_is ks (PreprocessedCurrent c) f = refl
  degree_is ks (PreprocessedNext c) f = refl
  degree_is ks (PublicValue i) f = refl
  degree_is ks (PeriodicValue c) f = refl
  degree_is ks FirstRow f = refl
  degree_is ks LastRow f = refl
  degree_is ks Transition f = refl
  degree_is ks (Sum i j) f = both_trees max i j f
  degree_is ks (Difference i j) f = both_trees max i j f
  degree_is ks (Product i j) f = both_trees (λ m n. saturated (m + n)) i j f
  degree_is ks (Negation i) f = at_tree i f

degrees_go : {F : Type 0} (ks : List F) (ts : List (Tree F)) (ns : List TreeNode) → NodesName (length ks) (length ts) ns → degrees_after (map (degree 0) ts) ns ≡ map (degree 0) (trees_after ks ts ns)
degrees_go ks ts [] f = refl
degrees_go ks ts (n ∷ ns) f =
    let t = node_tree ks ts n in
    let pushed : map (degree 0) ts ++ node_degree (map (degree 0) ts) n ∷ [] ≡ map (degree 0) (ts ++ t ∷ []) = ap (λ d. map (degree 0) ts ++ d ∷ []) (degree_is ts ks n f.0) ∙ sym (map_more (degree 0) ts t) in
    ap (λ ds. degrees_after ds ns) pushed ∙ degrees_go ks (ts ++ t ∷ []) ns (subst (λ k. NodesName (length ks) k ns) (sym (one_longer ts t)) f.1)

pub degrees_are : {F : Type 0} (ks : List F) (ns : List TreeNode) → NodesName (length ks) 0 ns → degrees_after [] ns ≡ map (degree 0) (nodes_trees ks ns)
degrees_are ks ns f = degrees_go ks [] ns f
