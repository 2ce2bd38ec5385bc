-- One node after the other, and one constraint after the other.
use Rattle.std.proofs.Common.{◌≡◌, ◌∙◌, ℕ, zero, suc, ◌+◌, ◌<◌, ◌≤◌, List, [], ◌∷◌, ◌++◌, length, map, drop, get_or, refl, sym, ap, subst, arith, append_assoc, IfOk, Result}
use Rattle.std.proofs.lemmas.List.{append-nil, drop_all, drop_more, length-map}
use Rattle.stark_tree_air.proofs.NeededSteps.{place_fits}
use Rattle.stark_tree_air.specs.Needed.{NodesBelow, OperandsBelow, constraint_place}
use Rattle.stark_tree_air.specs.Nodes.{ConstraintsFit}
use Rattle.stark_tree_air.specs.declared.node.TreeNode.{TreeNode}
use Rattle.stark_tree_air.specs.declared.node.TreeConstraint.{TreeConstraint}
use Rattle.stark_show.specs.Expressions.{Written}
use Rattle.stark_show.specs.Lines.{constraint_lines, numbered_line}
use Rattle.stark_show.specs.NodeDegrees.{degrees_after, node_degree}
use Rattle.stark_show.specs.ShownNodes.{NodeNames, NodesName, lines_after, long_line, long_lines, node_written, shown_after, shown_nodes, shown_written}

pub one_longer : {A : Type 0} (xs : List A) (x : A) → length (xs ++ x ∷ []) ≡ length xs + 1
one_longer [] x = refl
one_longer (y ∷ xs) x = let rest = one_longer xs x in omega (arith, rest)

-- What stands at a place, and the rest.
pub from_place : {A : Type 0} (xs : List A) (i : ℕ) (x : A) → i < length xs → x ≡ get_or xs i x → drop i xs ≡ x ∷ drop (i + 1) xs
from_place xs i x within is = drop_more xs i x within ∙ ap (λ t. t ∷ drop (i + 1) xs) (sym is)

-- The degrees of the nodes before the place i, and what is left.
pub record DegreesBegun (ns : List TreeNode) (i : ℕ) (ds : List ℕ) : Type 0 where
  pub leads : degrees_after ds (drop i ns) ≡ degrees_after [] ns
  pub many : length ds ≡ i
  pub below : NodesBelow i (drop i ns)

pub degrees_start : (ns : List TreeNode) (ds : List ℕ) → ds ≡ [] → NodesBelow 0 ns → DegreesBegun ns 0 ds
degrees_start ns ds none below = record { leads = ap (λ xs. degrees_after xs ns) none; many = ap length none; below = below }

module _ (ns : List TreeNode) (i : ℕ) (n : TreeNode) (ds : List ℕ) (within : i < length ns) (is : n ≡ get_or ns i n) (begun : DegreesBegun ns i ds) where
  here : drop i ns ≡ n ∷ drop (i + 1) ns
  here = from_place ns i n within is

  below_here : NodesBelow i (n ∷ drop (i + 1) ns)
  below_here = subst (λ js. NodesBelow i js) here begun.below

  pub operands_below : OperandsBelow (length ds) n
  operands_below = subst (λ k. OperandsBelow k n) (sym begun.many) below_here.0

  pub degrees_step : (after : List ℕ) (d : ℕ) → after ≡ ds ++ d ∷ [] → d ≡ node_degree ds n → DegreesBegun ns (i + 1) after
  degrees_step after d pushed is_degree =
      let grown : after ≡ ds ++ node_degree ds n ∷ [] = pushed ∙ ap (λ x. ds ++ x ∷ []) is_degree in
      record {
        leads = ap (λ xs. degrees_after xs (drop (i + 1) ns)) grown ∙ sym (ap (degrees_after ds) here) ∙ begun.leads;
        many = ap length pushed ∙ one_longer ds d ∙ ap (λ k. k + 1) begun.many;
        below = below_here.1;
      }

pub degrees_end : (ns : List TreeNode) (i : ℕ) (ds : List ℕ) → length ns ≤ i → DegreesBegun ns i ds → ds ≡ degrees_after [] ns
degrees_end ns i ds ended begun = sym (ap (degrees_after ds) (drop_all i ns ended)) ∙ begun.leads

-- What is shown of the nodes before the place i, and what is left.
pub record NodesShown {F : Type 0} (number : F → ℕ) (ks : List F) (ns : List TreeNode) (i : ℕ) (ws : List Written) (lines : List ℕ) : Type 0 where
  pub leads : shown_after number ks ws (drop i ns) ≡ shown_nodes number ks ns
  pub long : lines ++ lines_after number ks ws (drop i ns) ≡ long_lines number ks ns
  pub many : length ws ≡ i
  pub name : NodesName (length ks) i (drop i ns)

module _ {F : Type 0} (number : F → ℕ) (ks : List F) (ns : List TreeNode) where
  pub shown_start : (ws : List Written) (lines : List ℕ) → ws ≡ [] → lines ≡ [] → NodesName (length ks) 0 ns → NodesShown number ks ns 0 ws lines
  shown_start ws lines none empty name = record {
    leads = ap (λ xs. shown_after number ks xs ns) none;
    long = ap (λ xs. xs ++ lines_after number ks ws ns) empty ∙ ap (λ xs. lines_after number ks xs ns) none;
    many = ap length none;
    name = name;
  }

  module _ (i : ℕ) (n : TreeNode) (ws : List Written) (lines : List ℕ) (within : i < length ns) (is : n ≡ get_or ns i n) (begun : NodesShown number ks ns i ws lines) where
    at_node : drop i ns ≡ n ∷ drop (i + 1) ns
    at_node = from_place ns i n within is

    names_here : NodesName (length ks) i (n ∷ drop (i + 1) ns)
    names_here = subst (λ js. NodesName (length ks) i js) at_node begun.name

    pub node_names : NodeNames (length ks) (length ws) n
    node_names = subst (λ k. NodeNames (length ks) k n) (sym begun.many) names_here.0

    pub shown_step : (w shown : Written) (after : List Written) (more : List ℕ) → w ≡ node_written number ks ws n → shown ≡ shown_written (length ws) w → more ≡ lines ++ long_line (length ws) w → after ≡ ws ++ shown ∷ [] → NodesShown number ks ns (i + 1) after more
    shown_step w shown after more is_node is_shown is_line pushed =
        let v = node_written number ks ws n in
        let rest = drop (i + 1) ns in
        let grown : after ≡ ws ++ shown_written (length ws) v ∷ [] = pushed ∙ ap (λ x. ws ++ x ∷ []) (is_shown ∙ ap (shown_written (length ws)) is_node) in
        let line : more ≡ lines ++ long_line (length ws) v = is_line ∙ ap (λ x. lines ++ long_line (length ws) x) is_node in
        record {
          leads = ap (λ xs. shown_after number ks xs rest) grown ∙ sym (ap (shown_after number ks ws) at_node) ∙ begun.leads;
          long =
              ap (λ xs. xs ++ lines_after number ks after rest) line ∙
              ap (λ xs. (lines ++ long_line (length ws) v) ++ lines_after number ks xs rest) grown ∙
              append_assoc lines (long_line (length ws) v) (lines_after number ks (ws ++ shown_written (length ws) v ∷ []) rest) ∙
              sym (ap (λ js. lines ++ lines_after number ks ws js) at_node) ∙
              begun.long;
          many = ap length pushed ∙ one_longer ws shown ∙ ap (λ k. k + 1) begun.many;
          name = names_here.1;
        }

  pub shown_end : (i : ℕ) (ws : List Written) (lines : List ℕ) → length ns ≤ i → NodesShown number ks ns i ws lines → (ws ≡ shown_nodes number ks ns) × (lines ≡ long_lines number ks ns)
  shown_end i ws lines ended begun = (
    sym (ap (shown_after number ks ws) (drop_all i ns ended)) ∙ begun.leads,
    sym (append-nil lines) ∙ sym (ap (λ js. lines ++ lines_after number ks ws js) (drop_all i ns ended)) ∙ begun.long,
  )

module _ (cs : List TreeConstraint) (i : ℕ) (c : TreeConstraint) (within : i < length cs) (is : c ≡ get_or cs i c) where
  at_constraint : drop i cs ≡ c ∷ drop (i + 1) cs
  at_constraint = from_place cs i c within is

  pub fits_here : (count : ℕ) → ConstraintsFit count (drop i cs) → (constraint_place c < count) × ConstraintsFit count (drop (i + 1) cs)
  fits_here count fit =
      let both : ConstraintsFit count (c ∷ drop (i + 1) cs) = subst (λ js. ConstraintsFit count js) at_constraint fit in
      (place_fits count c both.0, both.1)

  pub one_more_line : (ws : List Written) (ds : List ℕ) (so_far line after all : List ℕ) → so_far ++ constraint_lines ws ds i (drop i cs) ≡ all → line ≡ numbered_line ws ds i c → after ≡ so_far ++ line → after ++ constraint_lines ws ds (i + 1) (drop (i + 1) cs) ≡ all
  one_more_line ws ds so_far line after all leads written pushed =
      let rest = constraint_lines ws ds (i + 1) (drop (i + 1) cs) in
      ap (λ xs. xs ++ rest) pushed ∙ append_assoc so_far line rest ∙ ap (λ x. so_far ++ (x ++ rest)) written ∙ sym (ap (λ js. so_far ++ constraint_lines ws ds i js) at_constraint) ∙ leads

pub read_at : {A : Type 0} (xs : List A) (i : ℕ) (d : A) → i < length xs → get_or xs i d ≡ get_or xs i (get_or xs i d)
read_at [] i d within = absurd (omega arith)
read_at (x ∷ xs) zero d within = refl
read_at (x ∷ xs) (suc i) d within = read_at xs i d (omega arith)

pub shown_length : {F : Type 0} (number : F → ℕ) (ks : List F) (ws : List Written) (ns : List TreeNode) → length (shown_after number ks ws ns) ≡ length ws + length ns
shown_length number ks ws [] = omega arith
shown_length number ks ws (n ∷ ns) =
    let shown = shown_written (length ws) (node_written number ks ws n) in
    let rest = shown_length number ks (ws ++ shown ∷ []) ns in
    let longer = one_longer ws shown in
    omega (arith, rest, longer)

-- There are as many phrases as nodes that they show.
pub as_many_shown : {F A : Type 0} (number : F → ℕ) (ks : List F) (ns nodes : List TreeNode) (view : A → Written) (ps shown : List A) → ps ≡ shown → map view shown ≡ shown_nodes number ks ns → ns ≡ nodes → length ps ≡ length nodes
as_many_shown number ks ns nodes view ps shown are shows same =
    let many : length (map view shown) ≡ length (shown_nodes number ks ns) = ap length shows in
    let each : length (map view shown) ≡ length shown = length-map shown view in
    let all = shown_length number ks [] ns in
    ap length are ∙ (let count : length shown ≡ length ns = omega (arith, many, each, all) in count) ∙ ap length same

pub degrees_length : (ds : List ℕ) (ns : List TreeNode) → length (degrees_after ds ns) ≡ length ds + length ns
degrees_length ds [] = omega arith
degrees_length ds (n ∷ ns) =
    let rest = degrees_length (ds ++ node_degree ds n ∷ []) ns in
    let longer = one_longer ds (node_degree ds n) in
    omega (arith, rest, longer)

pub fit_in : (m n : ℕ) (cs ds : List TreeConstraint) → n ≡ m → ds ≡ cs → ConstraintsFit m cs → ConstraintsFit n ds
fit_in m n cs ds many same fit = subst (λ k. ConstraintsFit k ds) (sym many) (subst (λ js. ConstraintsFit m js) (sym same) fit)

pub same_lines : (vs ws : List Written) (ds es : List ℕ) (bs cs : List TreeConstraint) → vs ≡ ws → ds ≡ es → bs ≡ cs → constraint_lines vs ds 0 bs ≡ constraint_lines ws es 0 cs
same_lines vs ws ds es bs cs e f g = ap (λ x. constraint_lines x ds 0 bs) e ∙ ap (λ x. constraint_lines ws x 0 bs) f ∙ ap (λ x. constraint_lines ws es 0 x) g

-- A line by what is shown of the nodes and their degrees.
pub same_line : {X E : Type 0} (bytes : X → List ℕ) (r : Result X E) (vs ws : List Written) (ds es : List ℕ) (k : ℕ) (c : TreeConstraint) → vs ≡ ws → ds ≡ es
    → IfOk r (λ line. bytes line ≡ numbered_line vs ds k c) → IfOk r (λ line. bytes line ≡ numbered_line ws es k c)
same_line bytes r vs ws ds es k c e f made =
    subst (λ x. IfOk r (λ line. bytes line ≡ numbered_line x es k c)) e (subst (λ x. IfOk r (λ line. bytes line ≡ numbered_line vs x k c)) f made)
