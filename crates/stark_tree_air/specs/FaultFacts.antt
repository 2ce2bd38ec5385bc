-- Nodes and constraints without a fault fit, and their trees stay within the layout.
use Rattle.std.specs.Prelude.{◌≡◌, ℕ, zero, suc, ◌+◌, ◌<◌, nat_lt, Bool, true, false, List, [], ◌∷◌, ◌++◌, length, map, filter_map, None, Some, if◌then◌else◌, refl, IsTrue}
use Rattle.std.specs.Option.{option_or}
use Rattle.std.proofs.Common.{sym, subst, arith, get_or}
use Rattle.std.proofs.lemmas.List.{length-map}
use Rattle.stark_support.specs.OptionFacts.{both_none}
use Rattle.stark_air.specs.Declaration.{IsDeclared, next_width}
use Rattle.stark_air.specs.Layout.{Layout, Covers, TreeWithin, LeavesWithin}
use Rattle.stark_air.specs.Tree.{Tree, constant, first_row}
use Rattle.stark_tree_air.specs.Nodes.{node_tree, trees_after, nodes_trees, marked_tree, spelled, NodeFits, NodesFit, ConstraintFits, ConstraintsFit}
use Rattle.stark_tree_air.specs.Faults.{operand_fault, node_fault, first_node_fault, constraint_fault, first_constraint_fault, tree_air_fault, tree_layout, main_next_column, preprocessed_next_column, reads_main_next, reads_preprocessed_next}
use Rattle.stark_tree_air.specs.Traces.{declared_trace}
use Rattle.stark_tree_air.specs.declared.columns.TreeColumns.{TreeColumns}
use Rattle.stark_tree_air.specs.declared.node.TreeNode.{TreeNode}
use Rattle.stark_tree_air.specs.declared.node.TreeNode.TheVariants.{Constant, MainCurrent, MainNext, PreprocessedCurrent, PreprocessedNext, PublicValue, PeriodicValue, FirstRow, LastRow, Transition, Sum, Difference, Product, Negation}
use Rattle.stark_tree_air.specs.declared.node.TreeConstraint.{TreeConstraint}
use Rattle.stark_tree_air.specs.declared.node.TreeConstraint.TheVariants.{Base, Extension}

tested : {A : Type 0} (b : Bool) (x : A) → (if b then None else Some x) ≡ None → IsTrue b
tested true x e = refl
tested false x e = absurd (cc)

below : (i n : ℕ) → IsTrue (nat_lt i n) → i < n
below i n h = grind arith

smaller : {A : Type 0} (i n : ℕ) (x : A) → (if nat_lt i n then None else Some x) ≡ None → i < n
smaller i n x e = below i n (tested (nat_lt i n) x e)

both_operands : (k i j : ℕ) → option_or (operand_fault k i) (operand_fault k j) ≡ None → (i < k) × (j < k)
both_operands k i j e = let both = both_none (operand_fault k i) (operand_fault k j) e in (smaller i k _ both.0, smaller j k _ both.1)

node_fits : (l : Layout) (m k : ℕ) (n : TreeNode) → node_fault l m k n ≡ None → NodeFits l m k n
node_fits l m k (Constant i) e = smaller i m _ e
node_fits l m k (MainCurrent c) e = smaller c l.main _ e
node_fits l m k (MainNext c) e = smaller c l.main_next _ e
node_fits l m k (PreprocessedCurrent c) e = smaller c l.preprocessed _ e
node_fits l m k (PreprocessedNext c) e = smaller c l.preprocessed_next _ e
node_fits l m k (PublicValue i) e = smaller i l.public_values _ e
node_fits l m k (PeriodicValue c) e = smaller c l.periodics _ e
node_fits l m k FirstRow e = tt
node_fits l m k LastRow e = tt
node_fits l m k Transition e = tt
node_fits l m k (Sum i j) e = both_operands k i j e
node_fits l m k (Difference i j) e = both_operands k i j e
node_fits l m k (Product i j) e = both_operands k i j e
node_fits l m k (Negation i) e = smaller i k _ e

one_more : (k : ℕ) → k + 1 ≡ suc k
one_more k = omega arith

nodes_fit : (l : Layout) (m k : ℕ) (ns : List TreeNode) → first_node_fault l m k ns ≡ None → NodesFit l m k ns
nodes_fit l m k [] e = tt
nodes_fit l m k (n ∷ ns) e =
    let both = both_none (node_fault l m k n) (first_node_fault l m (k + 1) ns) e in
    (node_fits l m k n both.0, subst (λ j. NodesFit l m j ns) (one_more k) (nodes_fit l m (k + 1) ns both.1))

constraint_fits : (count k : ℕ) (c : TreeConstraint) → constraint_fault count k c ≡ None → ConstraintFits count c
constraint_fits count k (Base i) e = smaller i count _ e
constraint_fits count k (Extension i) e = smaller i count _ e

constraints_fit : (count k : ℕ) (cs : List TreeConstraint) → first_constraint_fault count k cs ≡ None → ConstraintsFit count cs
constraints_fit count k [] e = tt
constraints_fit count k (c ∷ cs) e =
    let both = both_none (constraint_fault count k c) (first_constraint_fault count (k + 1) cs) e in
    (constraint_fits count k c both.0, constraints_fit count (k + 1) cs both.1)

pub all_fit : {F : Type 0} (columns : TreeColumns F) (ks : List F) (ns : List TreeNode) (cs : List TreeConstraint) → tree_air_fault columns ks ns cs ≡ None → NodesFit (tree_layout columns ns) (length ks) 0 ns × ConstraintsFit (length ns) cs
all_fit columns ks ns cs e =
    let l = tree_layout columns ns in
    let both = both_none (first_node_fault l (length ks) 0 ns) (first_constraint_fault (length ns) 0 cs) e in
    (nodes_fit l (length ks) 0 ns both.0, constraints_fit (length ns) 0 cs both.1)

-- Each tree stays within the layout.
abbrev AllWithin : {F : Type 0} → Layout → List (Tree F) → Type 0
AllWithin l [] = Unit {0}
AllWithin l (t ∷ ts) = TreeWithin l t × AllWithin l ts

within_at : {F : Type 0} (l : Layout) (ts : List (Tree F)) (i : ℕ) → AllWithin l ts → TreeWithin l (get_or ts i first_row)
within_at l [] i h = tt
within_at l (t ∷ ts) zero h = h.0
within_at l (t ∷ ts) (suc i) h = within_at l ts i h.1

within_more : {F : Type 0} (l : Layout) (ts : List (Tree F)) (t : Tree F) → AllWithin l ts → TreeWithin l t → AllWithin l (ts ++ t ∷ [])
within_more l [] t h w = (w, tt)
within_more l (u ∷ ts) t h w = (h.0, within_more l ts t h.1 w)

constants_within : {F : Type 0} (l : Layout) (ks : List F) → AllWithin l (map constant ks)
constants_within l [] = tt
constants_within l (k ∷ ks) = (tt, constants_within l ks)

node_within : {F : Type 0} (l : Layout) (m k : ℕ) (ks : List F) (ts : List (Tree F)) (n : TreeNode) → NodeFits l m k n → AllWithin l ts → TreeWithin l (node_tree ks ts n)
node_within l m k ks ts (Constant i) f h = within_at l (map constant ks) i (constants_within l ks)
node_within l m k ks ts (MainCurrent c) f h = f
node_within l m k ks ts (MainNext c) f h = f
node_within l m k ks ts (PreprocessedCurrent c) f h = f
node_within l m k ks ts (PreprocessedNext c) f h = f
node_within l m k ks ts (PublicValue i) f h = f
node_within l m k ks ts (PeriodicValue c) f h = f
node_within l m k ks ts FirstRow f h = tt
node_within l m k ks ts LastRow f h = tt
node_within l m k ks ts Transition f h = tt
node_within l m k ks ts (Sum i j) f h = (within_at l ts i h, within_at l ts j h)
node_within l m k ks ts (Difference i j) f h = (within_at l ts i h, within_at l ts j h)
node_within l m k ks ts (Product i j) f h = (within_at l ts i h, within_at l ts j h)
node_within l m k ks ts (Negation i) f h = within_at l ts i h

trees_within : {F : Type 0} (l : Layout) (m k : ℕ) (ks : List F) (ts : List (Tree F)) (ns : List TreeNode) → NodesFit l m k ns → AllWithin l ts → AllWithin l (trees_after ks ts ns)
trees_within l m k ks ts [] f h = h
trees_within l m k ks ts (n ∷ ns) f h = trees_within l m (suc k) ks (ts ++ node_tree ks ts n ∷ []) ns f.1 (within_more l ts (node_tree ks ts n) h (node_within l m k ks ts n f.0 h))

leaves_within : {F : Type 0} (l : Layout) (ts : List (Tree F)) (cs : List TreeConstraint) → AllWithin l ts → LeavesWithin l (map (marked_tree ts) cs)
leaves_within l ts [] h = tt
leaves_within l ts (Base i ∷ cs) h = (within_at l ts i h, leaves_within l ts cs h)
leaves_within l ts (Extension i ∷ cs) h = (within_at l ts i h, leaves_within l ts cs h)

pub tree_air_within : {F : Type 0} (columns : TreeColumns F) (ks : List F) (ns : List TreeNode) (cs : List TreeConstraint) → tree_air_fault columns ks ns cs ≡ None → LeavesWithin (tree_layout columns ns) (spelled ks ns cs)
tree_air_within columns ks ns cs e =
    let l = tree_layout columns ns in
    leaves_within l (nodes_trees ks ns) cs (trees_within l (length ks) 0 ks [] ns (all_fit columns ks ns cs e).0 tt)

-- More of each kind fits too.
covered_node : (have want : Layout) (m k : ℕ) (n : TreeNode) → Covers have want → NodeFits want m k n → NodeFits have m k n
covered_node have want m k (Constant i) c f = f
covered_node have want m k (MainCurrent i) c f = let w = c.main in omega arith
covered_node have want m k (MainNext i) c f = let w = c.main_next in omega arith
covered_node have want m k (PreprocessedCurrent i) c f = let w = c.preprocessed in omega arith
covered_node have want m k (PreprocessedNext i) c f = let w = c.preprocessed_next in omega arith
covered_node have want m k (PublicValue i) c f = let w = c.public_values in omega arith
covered_node have want m k (PeriodicValue i) c f = let w = c.periodics in omega arith
covered_node have want m k FirstRow c f = tt
covered_node have want m k LastRow c f = tt
covered_node have want m k Transition c f = tt
covered_node have want m k (Sum i j) c f = f
covered_node have want m k (Difference i j) c f = f
covered_node have want m k (Product i j) c f = f
covered_node have want m k (Negation i) c f = f

pub covered_nodes : (have want : Layout) (m k : ℕ) (ns : List TreeNode) → Covers have want → NodesFit want m k ns → NodesFit have m k ns
covered_nodes have want m k [] c f = tt
covered_nodes have want m k (n ∷ ns) c f = (covered_node have want m k n c f.0, covered_nodes have want m (suc k) ns c f.1)

main_next_read : (ns : List TreeNode) (width : ℕ) → (if reads_main_next ns then width else 0) ≡ next_width (filter_map main_next_column ns) width
main_next_read [] width = refl
main_next_read (MainNext c ∷ ns) width = refl
main_next_read (n ∷ ns) width = main_next_read ns width

preprocessed_next_read : (ns : List TreeNode) (width : ℕ) → (if reads_preprocessed_next ns then width else 0) ≡ next_width (filter_map preprocessed_next_column ns) width
preprocessed_next_read [] width = refl
preprocessed_next_read (PreprocessedNext c ∷ ns) width = refl
preprocessed_next_read (n ∷ ns) width = preprocessed_next_read ns width

pub tree_air_declared : {F : Type 0} (columns : TreeColumns F) (ns : List TreeNode) → IsDeclared (tree_layout columns ns) (declared_trace columns.preprocessed_trace)
    (map (λ column. column.items) columns.periodic_columns.items)
    (filter_map main_next_column ns) (filter_map preprocessed_next_column ns)
tree_air_declared columns ns = record {
  preprocessed_width = refl;
  periodic_columns = sym (length-map columns.periodic_columns.items (λ column. column.items));
  main_next_row = main_next_read ns (tree_layout columns ns).main;
  preprocessed_next_row = preprocessed_next_read ns (tree_layout columns ns).preprocessed;
}
