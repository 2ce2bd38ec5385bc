-- Trees and constraints that are written behind others.
use Rattle.std.proofs.Common.{◌≡◌, ◌∙◌, ℕ, zero, suc, ◌+◌, ◌<◌, List, [], ◌∷◌, ◌++◌, Option, Some, None, Result, Ok, Err, IfOk, OnOk, length, map, refl, sym, ap, subst, arith, append_assoc}
use Rattle.std.proofs.lemmas.List.{append-nil}
use Rattle.stark_air.specs.Layout.{Layout, TreeWithin}
use Rattle.stark_symbolic.specs.Symbolic.{pair_node, single_node}
use Rattle.stark_symbolic.specs.SymbolicView.{variable_tree}
use Rattle.stark_air.specs.Tree.{Tree, constant}
use Rattle.stark_symbolic.specs.declared.variable.BaseEntry.{BaseEntry}
use Rattle.stark_symbolic.specs.declared.variable.BaseEntry.TheVariants.{Main, Preprocessed, Public, Periodic}
use Rattle.stark_tree_air.specs.Nodes.{tree_at, node_tree, trees_after, NodeFits, NodesFit}
use Rattle.stark_tree_air.specs.Writing.{Holds, Behind, WritesTree, Writes, variable_leaf}
use Rattle.stark_tree_air.specs.declared.list.TreeList.{TreeList}
use Rattle.stark_tree_air.specs.declared.node.TreeNode.{TreeNode}
use Rattle.stark_tree_air.specs.declared.node.TreeNode.TheVariants.{Constant, MainCurrent, MainNext, PreprocessedCurrent, PreprocessedNext, PublicValue, PeriodicValue, FirstRow, LastRow, Transition, Sum, Difference, Product, Negation}
use Rattle.stark_tree_air.proofs.Steps.{trees_length}

trees_append : {F : Type 0} (ks : List F) (ts : List (Tree F)) (ns ms : List TreeNode) → trees_after ks ts (ns ++ ms) ≡ trees_after ks (trees_after ks ts ns) ms
trees_append ks ts [] ms = refl
trees_append ks ts (n ∷ ns) ms = trees_append ks (ts ++ node_tree ks ts n ∷ []) ns ms

no_more : (k : ℕ) → k + 0 ≡ k
no_more k = omega arith

one_before : (k n : ℕ) → k + suc n ≡ suc k + n
one_before k n = omega arith

fit_append : (l : Layout) (m k : ℕ) (ns : List TreeNode) (n : TreeNode) → NodesFit l m k ns → NodeFits l m (k + length ns) n → NodesFit l m k (ns ++ n ∷ [])
fit_append l m k [] n f g = (subst (λ j. NodeFits l m j n) (no_more k) g, tt)
fit_append l m k (x ∷ ns) n f g = (f.0, fit_append l m (suc k) ns n f.1 (subst (λ j. NodeFits l m j n) (one_before k (length ns)) g))

from_none : (n : ℕ) → n ≡ 0 + n
from_none n = omega arith

pub as_many_trees : {F : Type 0} (l : Layout) (ks : List F) (ns : List TreeNode) (ts : List (Tree F)) → Holds l ks ns ts → length ts ≡ length ns
as_many_trees l ks ns ts h = let all = trees_length ks [] ns in let same = ap length h.trees in omega (arith, all, same)

-- One more node.
with_node : {F : Type 0} (l : Layout) (ks : List F) (ns : List TreeNode) (ts : List (Tree F)) (n : TreeNode) → Holds l ks ns ts → NodeFits l (length ks) (length ts) n → Holds l ks (ns ++ n ∷ []) (ts ++ node_tree ks ts n ∷ [])
with_node l ks ns ts n h f = record {
  trees = trees_append ks [] ns (n ∷ []) ∙ ap (λ us. us ++ node_tree ks us n ∷ []) h.trees;
  fit = fit_append l (length ks) 0 ns n h.fit (subst (λ j. NodeFits l (length ks) j n) (as_many_trees l ks ns ts h ∙ from_none (length ns)) f);
}

same_constant : {F : Type 0} (ks ms : List F) (i : ℕ) → i < length ks → tree_at (map constant (ks ++ ms)) i ≡ tree_at (map constant ks) i
same_constant [] ms i below = absurd (omega arith)
same_constant (k ∷ ks) ms zero below = refl
same_constant (k ∷ ks) ms (suc i) below = same_constant ks ms i (omega arith)

same_node : {F : Type 0} (l : Layout) (k : ℕ) (ks ms : List F) (ts : List (Tree F)) (n : TreeNode) → NodeFits l (length ks) k n → node_tree (ks ++ ms) ts n ≡ node_tree ks ts n
same_node l k ks ms ts (Constant i) f = same_constant ks ms i f
same_node l k ks ms ts (MainCurrent i) f = refl
same_node l k ks ms ts (MainNext i) f = refl
same_node l k ks ms ts (PreprocessedCurrent i) f = refl
same_node l k ks ms ts (PreprocessedNext i) f = refl
same_node l k ks ms ts (PublicValue i) f = refl
same_node l k ks ms ts (PeriodicValue i) f = refl
same_node l k ks ms ts FirstRow f = refl
same_node l k ks ms ts LastRow f = refl
same_node l k ks ms ts Transition f = refl
same_node l k ks ms ts (Sum i j) f = refl
same_node l k ks ms ts (Difference i j) f = refl
same_node l k ks ms ts (Product i j) f = refl
same_node l k ks ms ts (Negation i) f = refl

same_trees : {F : Type 0} (l : Layout) (k : ℕ) (ks ms : List F) (ts : List (Tree F)) (ns : List TreeNode) → NodesFit l (length ks) k ns → trees_after (ks ++ ms) ts ns ≡ trees_after ks ts ns
same_trees l k ks ms ts [] f = refl
same_trees l k ks ms ts (n ∷ ns) f =
    ap (λ t. trees_after (ks ++ ms) (ts ++ t ∷ []) ns) (same_node l k ks ms ts n f.0) ∙ same_trees l (suc k) ks ms (ts ++ node_tree ks ts n ∷ []) ns f.1

more_constants : (l : Layout) (m k : ℕ) (n : TreeNode) → NodeFits l m k n → NodeFits l (suc m) k n
more_constants l m k (Constant i) f = omega arith
more_constants l m k (MainCurrent i) f = f
more_constants l m k (MainNext i) f = f
more_constants l m k (PreprocessedCurrent i) f = f
more_constants l m k (PreprocessedNext i) f = f
more_constants l m k (PublicValue i) f = f
more_constants l m k (PeriodicValue i) f = f
more_constants l m k FirstRow f = f
more_constants l m k LastRow f = f
more_constants l m k Transition f = f
more_constants l m k (Sum i j) f = f
more_constants l m k (Difference i j) f = f
more_constants l m k (Product i j) f = f
more_constants l m k (Negation i) f = f

all_more_constants : (l : Layout) (m k : ℕ) (ns : List TreeNode) → NodesFit l m k ns → NodesFit l (suc m) k ns
all_more_constants l m k [] f = tt
all_more_constants l m k (n ∷ ns) f = (more_constants l m k n f.0, all_more_constants l m (suc k) ns f.1)

pub longer : {A : Type 0} (xs : List A) (x : A) → suc (length xs) ≡ length (xs ++ x ∷ [])
longer [] x = refl
longer (y ∷ xs) x = ap suc (longer xs x)

with_constant : {F : Type 0} (l : Layout) (ks : List F) (k : F) (ns : List TreeNode) (ts : List (Tree F)) → Holds l ks ns ts → Holds l (ks ++ k ∷ []) ns ts
with_constant l ks k ns ts h = record {
  trees = same_trees l 0 ks (k ∷ []) [] ns h.fit ∙ h.trees;
  fit = subst (λ m. NodesFit l m 0 ns) (longer ks k) (all_more_constants l (length ks) 0 ns h.fit);
}

-- The constant that was written last.
last_constant : {F : Type 0} (ks : List F) (k : F) → tree_at (map constant (ks ++ k ∷ [])) (length ks) ≡ constant k
last_constant [] k = refl
last_constant (j ∷ ks) k = last_constant ks k

-- A tree whose node was written last, behind these trees.
module _ {F : Type 0} (l : Layout) (ts more : List (Tree F)) (t : Tree F) (n : TreeNode) (p : ℕ) (ks : List F) (ns : List TreeNode) (new : TreeList F) where
  node_behind : Holds l ks ns (ts ++ more) → NodeFits l (length ks) (length (ts ++ more)) n → node_tree ks (ts ++ more) n ≡ t →
      new.constants.items ≡ ks → new.nodes.items ≡ ns ++ n ∷ [] → p ≡ length ns → Behind l ts t p new.constants.items new.nodes.items
  node_behind h f is same pushed at = record {
    more = more;
    holds =
        subst (λ js. Holds l js new.nodes.items ((ts ++ more) ++ t ∷ [])) (sym same)
        (subst (λ ms. Holds l ks ms ((ts ++ more) ++ t ∷ [])) (sym pushed)
        (subst (λ u. Holds l ks (ns ++ n ∷ []) ((ts ++ more) ++ u ∷ [])) is (with_node l ks ns (ts ++ more) n h f)));
    place = at ∙ sym (as_many_trees l ks ns (ts ++ more) h);
  }

module _ {F : Type 0} (old new : TreeList F) (p : ℕ) where
  -- A leaf.
  pub leaf_written : (t : Tree F) (n : TreeNode) → ((ts : List (Tree F)) → node_tree old.constants.items ts n ≡ t) → ((l : Layout) (m k : ℕ) → TreeWithin l t → NodeFits l m k n) →
      new.constants.items ≡ old.constants.items → new.nodes.items ≡ old.nodes.items ++ n ∷ [] → p ≡ length old.nodes.items → WritesTree t old p new
  leaf_written t n is fits same pushed at = record {
    behind = λ l ts h within.
        let start = subst (λ us. Holds l old.constants.items old.nodes.items us) (sym (append-nil ts)) h in
        node_behind l ts [] t n p old.constants.items old.nodes.items new start (fits l (length old.constants.items) (length (ts ++ [])) within) (is (ts ++ [])) same pushed at;
  }

  -- A constant.
  pub constant_written : (k : F) → new.constants.items ≡ old.constants.items ++ k ∷ [] → new.nodes.items ≡ old.nodes.items ++ Constant (length old.constants.items) ∷ [] → p ≡ length old.nodes.items → WritesTree (constant k) old p new
  constant_written k added pushed at = record {
    behind = λ l ts h within.
        let ks = old.constants.items in
        let more = with_constant l ks k old.nodes.items ts h in
        let start = subst (λ us. Holds l (ks ++ k ∷ []) old.nodes.items us) (sym (append-nil ts)) more in
        let below : length ks < length (ks ++ k ∷ []) = let e = longer ks k in omega (arith, e) in
        node_behind l ts [] (constant k) (Constant (length ks)) p (ks ++ k ∷ []) old.nodes.items new start below (last_constant ks k) added pushed at;
  }

-- What a list's calls answer for leaves.
module _ {F : Type 0} {X : Type 0} where
  pub leaf_result : (r : Result ℕ X) (z : Option (Tree F)) (old new : TreeList F) (t : Tree F) (n : TreeNode) → z ≡ Some t → ((ts : List (Tree F)) → node_tree old.constants.items ts n ≡ t) → ((l : Layout) (m k : ℕ) → TreeWithin l t → NodeFits l m k n) →
      new.constants.items ≡ old.constants.items → OnOk r (new.nodes.items ≡ old.nodes.items ++ n ∷ []) → IfOk r (λ p. p ≡ length old.nodes.items) → IfOk r (λ p. Writes z old p new)
  leaf_result (Ok p) z old new t n e is fits same pushed at = subst (λ o. Writes o old p new) (sym e) (leaf_written old new p t n is fits same pushed at)
  leaf_result (Err f) z old new t n e is fits same pushed at = tt

  pub constant_result : (r : Result ℕ X) (z : Option (Tree F)) (old new : TreeList F) (k : F) → z ≡ Some (constant k) →
      OnOk r (new.constants.items ≡ old.constants.items ++ k ∷ []) → OnOk r (new.nodes.items ≡ old.nodes.items ++ Constant (length old.constants.items) ∷ []) → IfOk r (λ p. p ≡ length old.nodes.items) → IfOk r (λ p. Writes z old p new)
  constant_result (Ok p) z old new k e added pushed at = subst (λ o. Writes o old p new) (sym e) (constant_written old new p k added pushed at)
  constant_result (Err f) z old new k e added pushed at = tt

pub variable_is : {F : Type 0} (entry : BaseEntry) (c : ℕ) (ks : List F) (ts : List (Tree F)) → node_tree ks ts (variable_leaf entry c) ≡ variable_tree entry c
variable_is (Main zero) c ks ts = refl
variable_is (Main (suc k)) c ks ts = refl
variable_is (Preprocessed zero) c ks ts = refl
variable_is (Preprocessed (suc k)) c ks ts = refl
variable_is Public c ks ts = refl
variable_is Periodic c ks ts = refl

pub variable_fits : (F : Type 0) (entry : BaseEntry) (c : ℕ) (l : Layout) (m k : ℕ) → TreeWithin {F = F} l (variable_tree entry c) → NodeFits l m k (variable_leaf entry c)
variable_fits F (Main zero) c l m k h = h
variable_fits F (Main (suc j)) c l m k h = h
variable_fits F (Preprocessed zero) c l m k h = h
variable_fits F (Preprocessed (suc j)) c l m k h = h
variable_fits F Public c l m k h = h
variable_fits F Periodic c l m k h = h

at_end : {F : Type 0} (us : List (Tree F)) (t : Tree F) (vs : List (Tree F)) → tree_at ((us ++ t ∷ []) ++ vs) (length us) ≡ t
at_end [] t vs = refl
at_end (u ∷ us) t vs = at_end us t vs

pub at_last : {F : Type 0} (us : List (Tree F)) (t : Tree F) → tree_at (us ++ t ∷ []) (length us) ≡ t
at_last [] t = refl
at_last (u ∷ us) t = at_last us t

below_end : {A : Type 0} (us : List A) (t : A) (vs : List A) → length us < length ((us ++ t ∷ []) ++ vs)
below_end [] t vs = omega arith
below_end (u ∷ us) t vs = let h = below_end us t vs in omega (arith, h)

below_last : {A : Type 0} (us : List A) (t : A) → length us < length (us ++ t ∷ [])
below_last us t = let e = longer us t in omega (arith, e)

regrouped : {A : Type 0} (ts one : List A) (t : A) (two : List A) (u : A) → (((ts ++ one) ++ t ∷ []) ++ two) ++ u ∷ [] ≡ ts ++ (((one ++ t ∷ []) ++ two) ++ u ∷ [])
regrouped ts one t two u = simp append_assoc

regrouped_one : {A : Type 0} (ts one : List A) (t : A) → (ts ++ one) ++ t ∷ [] ≡ ts ++ (one ++ t ∷ [])
regrouped_one ts one t = append_assoc ts one (t ∷ [])

-- A node of two trees that were written one after the other.
module _ {F : Type 0} (node : Tree F → Tree F → Tree F) (op : ℕ → ℕ → TreeNode)
    (is : (ks : List F) (us : List (Tree F)) (i j : ℕ) → node_tree ks us (op i j) ≡ node (tree_at us i) (tree_at us j))
    (fits : (l : Layout) (m k i j : ℕ) → i < k → j < k → NodeFits l m k (op i j))
    (parts : (l : Layout) (t u : Tree F) → TreeWithin l (node t u) → TreeWithin l t × TreeWithin l u) where
  pair_behind : (t u : Tree F) (w a b v : TreeList F) (i j p : ℕ) → WritesTree t w i a → WritesTree u a j b → v.constants.items ≡ b.constants.items → v.nodes.items ≡ b.nodes.items ++ op i j ∷ [] → p ≡ length b.nodes.items → WritesTree (node t u) w p v
  pair_behind t u w a b v i j p left right same pushed at = record {
    behind = λ l ts h within.
        let inner = parts l t u within in
        let first = left.behind l ts h inner.0 in
        let second = right.behind l ((ts ++ first.more) ++ t ∷ []) first.holds inner.1 in
        let front = ((ts ++ first.more) ++ t ∷ []) ++ second.more in
        let us = front ++ u ∷ [] in
        let more = ((first.more ++ t ∷ []) ++ second.more) ++ u ∷ [] in
        let same_trees : us ≡ ts ++ more = regrouped ts first.more t second.more u in
        let joined : us ≡ ((ts ++ first.more) ++ t ∷ []) ++ (second.more ++ u ∷ []) = append_assoc ((ts ++ first.more) ++ t ∷ []) second.more (u ∷ []) in
        let at_left : tree_at us i ≡ t = ap (λ ws. tree_at ws i) joined ∙ ap (λ k. tree_at (((ts ++ first.more) ++ t ∷ []) ++ (second.more ++ u ∷ [])) k) first.place ∙ at_end (ts ++ first.more) t (second.more ++ u ∷ []) in
        let at_right : tree_at us j ≡ u = ap (λ k. tree_at us k) second.place ∙ at_last front u in
        let left_below : i < length us = subst (λ k. k < length us) (sym first.place) (subst (λ ws. length (ts ++ first.more) < length ws) (sym joined) (below_end (ts ++ first.more) t (second.more ++ u ∷ []))) in
        let right_below : j < length us = subst (λ k. k < length us) (sym second.place) (below_last front u) in
        let made : node_tree b.constants.items us (op i j) ≡ node t u = is b.constants.items us i j ∙ ap (λ s. node s (tree_at us j)) at_left ∙ ap (λ s. node t s) at_right in
        node_behind l ts more (node t u) (op i j) p b.constants.items b.nodes.items v
        (subst (λ ws. Holds l b.constants.items b.nodes.items ws) same_trees second.holds)
        (subst (λ ws. NodeFits l (length b.constants.items) (length ws) (op i j)) same_trees (fits l (length b.constants.items) (length us) i j left_below right_below))
        (subst (λ ws. node_tree b.constants.items ws (op i j) ≡ node t u) same_trees made)
        same pushed at;
  }

  pair_written : (x y : Option (Tree F)) (w a b v : TreeList F) (i j p : ℕ) → Writes x w i a → Writes y a j b → v.constants.items ≡ b.constants.items → v.nodes.items ≡ b.nodes.items ++ op i j ∷ [] → p ≡ length b.nodes.items → Writes (pair_node node x y) w p v
  pair_written (Some t) (Some u) w a b v i j p left right same pushed at = pair_behind t u w a b v i j p left right same pushed at
  pair_written (Some t) None w a b v i j p left right same pushed at = absurd right
  pair_written None y w a b v i j p left right same pushed at = absurd left

  pub pair_result : {X : Type 0} (r : Result ℕ X) (z x y : Option (Tree F)) (w a b v : TreeList F) (i j : ℕ) → z ≡ pair_node node x y → Writes x w i a → Writes y a j b → v.constants.items ≡ b.constants.items →
      OnOk r (v.nodes.items ≡ b.nodes.items ++ op i j ∷ []) → IfOk r (λ p. p ≡ length b.nodes.items) → IfOk r (λ p. Writes z w p v)
  pair_result (Ok p) z x y w a b v i j e left right same pushed at = subst (λ o. Writes o w p v) (sym e) (pair_written x y w a b v i j p left right same pushed at)
  pair_result (Err f) z x y w a b v i j e left right same pushed at = tt

-- A node of a tree that was written.
module _ {F : Type 0} (node : Tree F → Tree F) (op : ℕ → TreeNode)
    (is : (ks : List F) (us : List (Tree F)) (i : ℕ) → node_tree ks us (op i) ≡ node (tree_at us i))
    (fits : (l : Layout) (m k i : ℕ) → i < k → NodeFits l m k (op i))
    (part : (l : Layout) (t : Tree F) → TreeWithin l (node t) → TreeWithin l t) where
  single_behind : (t : Tree F) (w a v : TreeList F) (i p : ℕ) → WritesTree t w i a → v.constants.items ≡ a.constants.items → v.nodes.items ≡ a.nodes.items ++ op i ∷ [] → p ≡ length a.nodes.items → WritesTree (node t) w p v
  single_behind t w a v i p inner same pushed at = record {
    behind = λ l ts h within.
        let first = inner.behind l ts h (part l t within) in
        let front = ts ++ first.more in
        let us = front ++ t ∷ [] in
        let same_trees : us ≡ ts ++ (first.more ++ t ∷ []) = regrouped_one ts first.more t in
        let at_inner : tree_at us i ≡ t = ap (λ k. tree_at us k) first.place ∙ at_last front t in
        let below : i < length us = subst (λ k. k < length us) (sym first.place) (below_last front t) in
        let made : node_tree a.constants.items us (op i) ≡ node t = is a.constants.items us i ∙ ap node at_inner in
        node_behind l ts (first.more ++ t ∷ []) (node t) (op i) p a.constants.items a.nodes.items v
        (subst (λ ws. Holds l a.constants.items a.nodes.items ws) same_trees first.holds)
        (subst (λ ws. NodeFits l (length a.constants.items) (length ws) (op i)) same_trees (fits l (length a.constants.items) (length us) i below))
        (subst (λ ws. node_tree a.constants.items ws (op i) ≡ node t) same_trees made)
        same pushed at;
  }

  single_written : (x : Option (Tree F)) (w a v : TreeList F) (i p : ℕ) → Writes x w i a → v.constants.items ≡ a.constants.items → v.nodes.items ≡ a.nodes.items ++ op i ∷ [] → p ≡ length a.nodes.items → Writes (single_node node x) w p v
  single_written (Some t) w a v i p inner same pushed at = single_behind t w a v i p inner same pushed at
  single_written None w a v i p inner same pushed at = absurd inner

  pub single_result : {X : Type 0} (r : Result ℕ X) (z x : Option (Tree F)) (w a v : TreeList F) (i : ℕ) → z ≡ single_node node x → Writes x w i a → v.constants.items ≡ a.constants.items →
      OnOk r (v.nodes.items ≡ a.nodes.items ++ op i ∷ []) → IfOk r (λ p. p ≡ length a.nodes.items) → IfOk r (λ p. Writes z w p v)
  single_result (Ok p) z x w a v i e inner same pushed at = subst (λ o. Writes o w p v) (sym e) (single_written x w a v i p inner same pushed at)
  single_result (Err f) z x w a v i e inner same pushed at = tt
