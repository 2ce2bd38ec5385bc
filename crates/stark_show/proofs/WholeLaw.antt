-- Where an expression is short, it is shown as a whole.
use Rattle.std.proofs.Common.{◌≡◌, ◌∙◌, ℕ, zero, suc, ◌+◌, ◌<◌, ◌≤◌, nat_lt, Bool, true, false, List, [], ◌∷◌, ◌++◌, codes, length, map, refl, sym, ap, subst, arith, if◌then◌else◌}
use Rattle.std.specs.Fmt.{decimal}
use Rattle.std.proofs.lemmas.Bool.{le-ltb}
use Rattle.std.proofs.lemmas.List.{length-append, get_or-map}
use Rattle.stark_symbolic.specs.Degree.{degree}
use Rattle.stark_air.specs.Tree.{Tree, constant, first_row}
use Rattle.stark_tree_air.specs.Needed.{constraint_place}
use Rattle.stark_tree_air.specs.Nodes.{ConstraintsFit, marked_tree, node_tree, nodes_trees, tree_at, trees_after}
use Rattle.stark_tree_air.specs.declared.node.TreeNode.{TreeNode}
use Rattle.stark_tree_air.specs.declared.node.TreeNode.TheVariants.{Constant, MainCurrent, MainNext, PreprocessedCurrent, PreprocessedNext, PublicValue, PeriodicValue, FirstRow, LastRow, Transition, Sum, Difference, Product, Negation}
use Rattle.stark_tree_air.specs.declared.node.TreeConstraint.{TreeConstraint}
use Rattle.stark_tree_air.specs.declared.node.TreeConstraint.TheVariants.{Base, Extension}
use Rattle.stark_show.specs.declared.binding.Binding.{Binding}
use Rattle.stark_show.specs.declared.binding.Binding.TheVariants.{Additive, Multiplicative, Prefix, Leaf}
use Rattle.stark_show.specs.Expressions.{Written, constant_written, equation_text, leaf_written, negation_written, operand_text, pair_written, strength, tree_written}
use Rattle.stark_show.specs.Lines.{constraint_line, constraint_lines}
use Rattle.stark_show.specs.NodeDegrees.{degree_at}
use Rattle.stark_show.specs.ShownNodes.{NodeNames, NodesName, node_written, shown_after, shown_nodes, shown_written, written_at}
use Rattle.stark_show.specs.Whole.{AreShort, tree_line, tree_lines}
use Rattle.stark_show.proofs.Passes.{one_longer}

bracketed : (b : Bool) (text : List ℕ) → length text ≤ length (if b then codes "(" ++ (text ++ codes ")") else text)
bracketed true text = let both = length-append text (codes ")") in omega (arith, both)
bracketed false text = omega arith

operand_longer : (least : Binding) (w : Written) → length w.text ≤ length (operand_text least w)
unfolding operand_text
operand_longer least w = bracketed (nat_lt (strength w.binding) (strength least)) w.text

pair_longer : (binding : Binding) (sign : List ℕ) (least : Binding) (a b : Written) (k : ℕ) → length (pair_written binding sign least a b).text ≤ k → (length a.text ≤ k) × (length b.text ≤ k)
pair_longer binding sign least a b k h =
    let left = operand_longer binding a in
    let right = operand_longer least b in
    let all = length-append (operand_text binding a) (sign ++ operand_text least b) in
    let end = length-append sign (operand_text least b) in
    (omega (arith, h, left, all), omega (arith, h, right, all, end))

negation_longer : (a : Written) (k : ℕ) → length (negation_written a).text ≤ k → length a.text ≤ k
negation_longer a k h = let inner = operand_longer Leaf a in omega (arith, h, inner)

short_shown : (k : ℕ) (w : Written) → length w.text ≤ 4096 → shown_written k w ≡ w
unfolding shown_written
short_shown k w h = ap (λ b. if b then leaf_written (codes "node " ++ decimal k) else w) (le-ltb 4096 (length w.text) h)

-- What is shown is the whole where that is short.
abbrev IsWhole : {F : Type 0} → (F → ℕ) → Tree F → Written → Type 0
IsWhole number t w = length (equation_text number t) ≤ 4096 → w ≡ tree_written number t

abbrev EachWhole : {F : Type 0} → (F → ℕ) → List (Tree F) → List Written → Type 0
EachWhole number [] [] = Unit {0}
EachWhole number [] (w ∷ ws) = ⊥
EachWhole number (t ∷ ts) [] = ⊥
EachWhole number (t ∷ ts) (w ∷ ws) = IsWhole number t w × EachWhole number ts ws

module _ {F : Type 0} (number : F → ℕ) where
  whole_length : (ts : List (Tree F)) (ws : List Written) → EachWhole number ts ws → length ws ≡ length ts
  whole_length [] [] h = refl
  whole_length [] (w ∷ ws) h = absurd h
  whole_length (t ∷ ts) [] h = absurd h
  whole_length (t ∷ ts) (w ∷ ws) h = ap suc (whole_length ts ws h.1)

  whole_at : (ts : List (Tree F)) (ws : List Written) (i : ℕ) → EachWhole number ts ws → IsWhole number (tree_at ts i) (written_at ws i)
  whole_at [] [] i h short = refl
  whole_at [] (w ∷ ws) i h short = absurd h
  whole_at (t ∷ ts) [] i h short = absurd h
  whole_at (t ∷ ts) (w ∷ ws) zero h short = h.0 short
  whole_at (t ∷ ts) (w ∷ ws) (suc i) h short = whole_at ts ws i h.1 short

  whole_more : (ts : List (Tree F)) (ws : List Written) (t : Tree F) (w : Written) → EachWhole number ts ws → IsWhole number t w → EachWhole number (ts ++ t ∷ []) (ws ++ w ∷ [])
  whole_more [] [] t w h is = (is, tt)
  whole_more [] (v ∷ ws) t w h is = absurd h
  whole_more (s ∷ ts) [] t w h is = absurd h
  whole_more (s ∷ ts) (v ∷ ws) t w h is = (h.0, whole_more ts ws t w h.1 is)

  constant_whole : (ks : List F) (i : ℕ) → i < length ks → written_at (map (constant_written number) ks) i ≡ tree_written number (tree_at (map constant ks) i)
  constant_whole [] i within = absurd (omega arith)
  constant_whole (k ∷ ks) zero within = refl
  constant_whole (k ∷ ks) (suc i) within = constant_whole ks i (omega arith)

  module _ (ts : List (Tree F)) (ws : List Written) (each : EachWhole number ts ws) where
    both_whole : (binding : Binding) (sign : List ℕ) (least : Binding) (i j : ℕ) → length (pair_written binding sign least (tree_written number (tree_at ts i)) (tree_written number (tree_at ts j))).text ≤ 4096 → pair_written binding sign least (written_at ws i) (written_at ws j) ≡ pair_written binding sign least (tree_written number (tree_at ts i)) (tree_written number (tree_at ts j))
    both_whole binding sign least i j short =
        let parts = pair_longer binding sign least (tree_written number (tree_at ts i)) (tree_written number (tree_at ts j)) 4096 short in
        ap (λ a. pair_written binding sign least a (written_at ws j)) (whole_at ts ws i each parts.0) ∙ ap (pair_written binding sign least (tree_written number (tree_at ts i))) (whole_at ts ws j each parts.1)

    node_whole : (ks : List F) (n : TreeNode) → NodeNames (length ks) (length ts) n → IsWhole number (node_tree ks ts n) (node_written number ks ws n)
    node_whole ks (Constant i) f short = constant_whole ks i f
    node_whole ks (MainCurrent c) f short = refl
    node_whole ks (MainNext c) f short = refl
    node_whole ks (PreprocessedCurrent c) f short = refl
    node_whole ks (PreprocessedNext c) f short = refl
    node_whole ks (PublicValue i) f short = refl
    node_whole ks (PeriodicValue c) f short = refl
    node_whole ks FirstRow f short = refl
    node_whole ks LastRow f short = refl
    node_whole ks Transition f short = refl
    node_whole ks (Sum i j) f short = both_whole Additive (codes " + ") Multiplicative i j short
    node_whole ks (Difference i j) f short = both_whole Additive (codes " - ") Multiplicative i j short
    node_whole ks (Product i j) f short = both_whole Multiplicative (codes " * ") Prefix i j short
    node_whole ks (Negation i) f short = ap negation_written (whole_at ts ws i each (negation_longer (tree_written number (tree_at ts i)) 4096 short))

    shown_whole : (ks : List F) (n : TreeNode) → NodeNames (length ks) (length ts) n → IsWhole number (node_tree ks ts n) (shown_written (length ws) (node_written number ks ws n))
    shown_whole ks n f short =
        let is = node_whole ks n f short in
        short_shown (length ws) (node_written number ks ws n) (subst (λ w. length w.text ≤ 4096) (sym is) short) ∙ is

  whole_go : (ks : List F) (ts : List (Tree F)) (ws : List Written) (ns : List TreeNode) → EachWhole number ts ws → NodesName (length ks) (length ts) ns → EachWhole number (trees_after ks ts ns) (shown_after number ks ws ns)
  whole_go ks ts ws [] h f = h
  whole_go ks ts ws (n ∷ ns) h f =
      let t = node_tree ks ts n in
      let w = shown_written (length ws) (node_written number ks ws n) in
      whole_go ks (ts ++ t ∷ []) (ws ++ w ∷ []) ns (whole_more ts ws t w h (shown_whole ts ws h ks n f.0)) (subst (λ k. NodesName (length ks) k ns) (sym (one_longer ts t)) f.1)

  -- What is shown at a place is the whole tree there, where that is short.
  whole_nodes : (ks : List F) (ns : List TreeNode) (i : ℕ) → NodesName (length ks) 0 ns → IsWhole number (tree_at (nodes_trees ks ns) i) (written_at (shown_nodes number ks ns) i)
  whole_nodes ks ns i f = whole_at (nodes_trees ks ns) (shown_nodes number ks ns) i (whole_go ks [] [] ns tt f)

  trees_length : (ks : List F) (ts : List (Tree F)) (ns : List TreeNode) → length (trees_after ks ts ns) ≡ length ts + length ns
  trees_length ks ts [] = omega arith
  trees_length ks ts (n ∷ ns) =
      let rest = trees_length ks (ts ++ node_tree ks ts n ∷ []) ns in
      let longer = one_longer ts (node_tree ks ts n) in
      omega (arith, rest, longer)

  module _ (ks : List F) (ns : List TreeNode) (f : NodesName (length ks) 0 ns) where
    degree_there : (i : ℕ) → i < length ns → degree_at (map (degree 0) (nodes_trees ks ns)) i ≡ degree 0 (tree_at (nodes_trees ks ns) i)
    degree_there i within = let many = trees_length ks [] ns in get_or-map (degree 0) (nodes_trees ks ns) i first_row 0 (omega (arith, many, within))

    one_line : (k : ℕ) (c : TreeConstraint) → constraint_place c < length ns → length (equation_text number (tree_at (nodes_trees ks ns) (constraint_place c))) ≤ 4096
        → constraint_line k c (degree_at (map (degree 0) (nodes_trees ks ns)) (constraint_place c)) (written_at (shown_nodes number ks ns) (constraint_place c)).text
        ≡ constraint_line k c (degree 0 (tree_at (nodes_trees ks ns) (constraint_place c))) (equation_text number (tree_at (nodes_trees ks ns) (constraint_place c)))
    one_line k c within short =
        let place = constraint_place c in
        ap (λ d. constraint_line k c d (written_at (shown_nodes number ks ns) place).text) (degree_there place within) ∙
        ap (λ (w : Written). constraint_line k c (degree 0 (tree_at (nodes_trees ks ns) place)) w.text) (whole_nodes ks ns place f short)

    pub lines_whole : (k : ℕ) (cs : List TreeConstraint) → ConstraintsFit (length ns) cs → AreShort number (map (marked_tree (nodes_trees ks ns)) cs)
        → constraint_lines (shown_nodes number ks ns) (map (degree 0) (nodes_trees ks ns)) k cs ≡ tree_lines number k (map (marked_tree (nodes_trees ks ns)) cs)
    lines_whole k [] fit short = refl
    lines_whole k (Base i ∷ cs) fit short =
        ap (λ x. x ++ constraint_lines (shown_nodes number ks ns) (map (degree 0) (nodes_trees ks ns)) (k + 1) cs) (one_line k (Base i) fit.0 short.0) ∙
        ap (λ x. tree_line number k (codes "base") (tree_at (nodes_trees ks ns) i) ++ x) (lines_whole (k + 1) cs fit.1 short.1)
    lines_whole k (Extension i ∷ cs) fit short =
        ap (λ x. x ++ constraint_lines (shown_nodes number ks ns) (map (degree 0) (nodes_trees ks ns)) (k + 1) cs) (one_line k (Extension i) fit.0 short.0) ∙
        ap (λ x. tree_line number k (codes "extension") (tree_at (nodes_trees ks ns) i) ++ x) (lines_whole (k + 1) cs fit.1 short.1)
