-- What the node at a place says of its tree.
use Rattle.std.proofs.Common.{◌≡◌, ◌∙◌, ℕ, zero, suc, ◌+◌, ◌<◌, ◌≤◌, Bool, true, false, List, [], ◌∷◌, ◌++◌, Option, Some, None, MatchOption, Bor, length, map, slice_get, refl, sym, ap, subst, arith}
use Rattle.std.proofs.lemmas.List.{length-append}
use Rattle.std.proofs.lemmas.Option.{get_or_from_slice_get, slice_get_past, slice_get_read, slice_get_within}
use Rattle.std.specs.List.{ItemBy}
use Rattle.std.specs.Option.{option_copied}
use Rattle.stark_air.specs.Layout.{Layout}
use Rattle.stark_air.specs.Tree.{Tree, constant, first_row}
use Rattle.stark_tree_air.specs.Nodes.{tree_at, node_tree, trees_after}
use Rattle.stark_tree_air.specs.declared.list.TreeList.{TreeList}
use Rattle.stark_tree_air.specs.declared.node.TreeNode.{TreeNode}
use Rattle.stark_tree_air.specs.declared.node.TreeNode.TheVariants.{Constant, MainCurrent, MainNext, PreprocessedCurrent, PreprocessedNext, PublicValue, PeriodicValue, FirstRow, LastRow, Transition, Sum, Difference, Product, Negation}
use Rattle.stark_tree_air.proofs.WrittenTrees.{as_many_trees}
use Rattle.stark_lookup_extension.specs.Written.{Spelling, StandsAt, Whether, constant_index}
use Rattle.stark_lookup_extension.proofs.Steps.{stands_last, stands_then}

stays : {F : Type 0} (ks : List F) (ts : List (Tree F)) (ns : List TreeNode) (p : ℕ) (t : Tree F) → slice_get ts p ≡ Some t → slice_get (trees_after ks ts ns) p ≡ Some t
stays ks ts [] p t e = e
stays ks ts (n ∷ ns) p t e = stays ks (ts ++ node_tree ks ts n ∷ []) ns p t (stands_then ts (node_tree ks ts n ∷ []) p t e)

-- The tree at a place is that of its node, over some trees before it.
node_there : {F : Type 0} (ks : List F) (ts : List (Tree F)) (ns : List TreeNode) (j p : ℕ) (n : TreeNode) → p ≡ length ts + j → slice_get ns j ≡ Some n
    → (us : List (Tree F)) × (slice_get (trees_after ks ts ns) p ≡ Some (node_tree ks us n))
node_there ks ts [] j p n at e = absurd (cc)
node_there ks ts (m ∷ ns) zero p n at e =
    let same : m ≡ n = cc in
    let here : p ≡ length ts = omega (arith, at) in (
      ts,
      stays ks (ts ++ node_tree ks ts m ∷ []) ns p (node_tree ks ts n)
          (ap (slice_get (ts ++ node_tree ks ts m ∷ [])) here ∙ stands_last ts (node_tree ks ts m) ∙ ap (λ o. Some (node_tree ks ts o)) same),
    )
node_there ks ts (m ∷ ns) (suc j) p n at e =
    let longer = length-append ts (node_tree ks ts m ∷ []) in
    node_there ks (ts ++ node_tree ks ts m ∷ []) ns j p n (omega (arith, at, longer)) e

constant_there : {F : Type 0} (ks : List F) (i : ℕ) (k : F) → slice_get ks i ≡ Some k → tree_at (map constant ks) i ≡ constant k
constant_there [] i k e = absurd (cc)
constant_there (j ∷ ks) zero k e = let same : j ≡ k = cc in ap constant same
constant_there (j ∷ ks) (suc i) k e = constant_there ks i k e

no_constant_there : {F : Type 0} (ks : List F) (i : ℕ) → slice_get ks i ≡ None → tree_at (map constant ks) i ≡ first_row
no_constant_there [] i e = refl
no_constant_there (j ∷ ks) zero e = absurd (cc)
no_constant_there (j ∷ ks) (suc i) e = no_constant_there ks i e

-- a node that is no constant of the list
abbrev pub IsOther : TreeNode → Type 0
IsOther n = (i : ℕ) → n ≡ Constant i → ⊥

other_tree : {F : Type 0} (ks : List F) (us : List (Tree F)) (n : TreeNode) (k : F) → IsOther n → node_tree ks us n ≡ constant k → ⊥
other_tree ks us (Constant i) k other e = other i refl
other_tree ks us (MainCurrent c) k other e = cc
other_tree ks us (MainNext c) k other e = cc
other_tree ks us (PreprocessedCurrent c) k other e = cc
other_tree ks us (PreprocessedNext c) k other e = cc
other_tree ks us (PublicValue i) k other e = cc
other_tree ks us (PeriodicValue c) k other e = cc
other_tree ks us FirstRow k other e = cc
other_tree ks us LastRow k other e = cc
other_tree ks us Transition k other e = cc
other_tree ks us (Sum i j) k other e = cc
other_tree ks us (Difference i j) k other e = cc
other_tree ks us (Product i j) k other e = cc
other_tree ks us (Negation i) k other e = cc

module _ {F : Type 0} (list : TreeList F) (l : Layout) (ts : List (Tree F)) (p : ℕ) (t : Tree F) (h : Spelling l list ts) (at : StandsAt ts p t) where
  tree_of : (n : TreeNode) → slice_get list.nodes.items p ≡ Some n → (us : List (Tree F)) × (t ≡ node_tree list.constants.items us n)
  tree_of n e =
      let there = node_there list.constants.items [] list.nodes.items p p n (omega arith) e in
      let both : Some t ≡ Some (node_tree list.constants.items there.0 n) = sym at ∙ sym (ap (λ us. slice_get us p) h.trees) ∙ there.1 in
      let same : t ≡ node_tree list.constants.items there.0 n = cc in
      (there.0, same)

  pub known_constant : (i : ℕ) (k : F) → slice_get list.nodes.items p ≡ Some (Constant i) → slice_get list.constants.items i ≡ Some k → t ≡ constant k
  known_constant i k e known = (tree_of (Constant i) e).1 ∙ constant_there list.constants.items i k known

  pub lacking_constant : (i : ℕ) (k : F) → slice_get list.nodes.items p ≡ Some (Constant i) → slice_get list.constants.items i ≡ None → t ≡ constant k → ⊥
  lacking_constant i k e none is = let never : first_row ≡ constant k = sym ((tree_of (Constant i) e).1 ∙ no_constant_there list.constants.items i none) ∙ is in cc

  pub other_node : (n : TreeNode) (k : F) → slice_get list.nodes.items p ≡ Some n → IsOther n → t ≡ constant k → ⊥
  other_node n k e other is = let there = tree_of n e in other_tree list.constants.items there.0 n k other (sym there.1 ∙ is)

  pub no_node : (k : F) → slice_get list.nodes.items p ≡ None → t ≡ constant k → ⊥
  no_node k e is =
      let within = slice_get_within ts p t at in
      let many = as_many_trees l list.constants.items list.nodes.items ts h in
      there_is_one list.nodes.items p (omega (arith, within, many)) e
    where
      there_is_one : (ns : List TreeNode) (q : ℕ) → q < length ns → slice_get ns q ≡ None → ⊥
      there_is_one [] q below none = absurd (omega arith)
      there_is_one (n ∷ ns) zero below none = cc
      there_is_one (n ∷ ns) (suc q) below none = there_is_one ns q (omega arith) none

-- what `get` answers
pub got : {R X : Type 0} (now : R → X) (xs ys : List X) (i : ℕ) (r : R) → ItemBy now xs i i (Some r) → xs ≡ ys → slice_get ys i ≡ Some (now r)
got now xs ys i r item same = subst (λ zs. slice_get zs i ≡ Some (now r)) same (slice_get_read xs (length xs) i (now r) refl item.3.0 item.1)

pub got_none : {R X : Type 0} (now : R → X) (xs ys : List X) (i : ℕ) → ItemBy now xs i i None → xs ≡ ys → slice_get ys i ≡ None
got_none now xs ys i item same = subst (λ zs. slice_get zs i ≡ None) same (slice_get_past xs i item.3)

pub indexed : (n : TreeNode) (i : ℕ) → constant_index n ≡ Some i → n ≡ Constant i
indexed (Constant j) i e = let same : j ≡ i = cc in ap Constant same
indexed (MainCurrent c) i e = absurd (cc)
indexed (MainNext c) i e = absurd (cc)
indexed (PreprocessedCurrent c) i e = absurd (cc)
indexed (PreprocessedNext c) i e = absurd (cc)
indexed (PublicValue c) i e = absurd (cc)
indexed (PeriodicValue c) i e = absurd (cc)
indexed FirstRow i e = absurd (cc)
indexed LastRow i e = absurd (cc)
indexed Transition i e = absurd (cc)
indexed (Sum j k) i e = absurd (cc)
indexed (Difference j k) i e = absurd (cc)
indexed (Product j k) i e = absurd (cc)
indexed (Negation j) i e = absurd (cc)

pub not_indexed : (n : TreeNode) → constant_index n ≡ None → IsOther n
not_indexed n e i is = let one : constant_index n ≡ Some i = ap constant_index is in cc

-- The constant at a node's index is the tree.
pub shown : {F : Type 0} (list : TreeList F) (l : Layout) (ts : List (Tree F)) (p : ℕ) (t : Tree F) → Spelling l list ts → StandsAt ts p t → (n : TreeNode) (i : ℕ) → slice_get list.nodes.items p ≡ Some n → constant_index n ≡ Some i
    → (constants : List F) → constants ≡ list.constants.items → (r : Option (Bor F)) (answer : Option F) → answer ≡ option_copied r → ItemBy (λ (b : Bor F). b.now) constants i i r → MatchOption answer ((k : F) → t ≡ constant k → ⊥) (λ k. t ≡ constant k)
shown {F} list l ts p t h at n i there index constants same (Some b) answer is item =
    let node = there ∙ ap Some (indexed n i index) in
    subst (λ o. MatchOption o ((k : F) → t ≡ constant k → ⊥) (λ k. t ≡ constant k)) (sym is) (known_constant list l ts p t h at i b.now node (got (λ (c : Bor F). c.now) constants list.constants.items i b item same))
shown {F} list l ts p t h at n i there index constants same None answer is item =
    let node = there ∙ ap Some (indexed n i index) in
    subst (λ o. MatchOption o ((k : F) → t ≡ constant k → ⊥) (λ k. t ≡ constant k)) (sym is)
    (λ k. lacking_constant list l ts p t h at i k node (got_none {R = Bor F} (λ c. c.now) constants list.constants.items i item same))

-- Constants are compared by the field's equality.
pub compared : {F : Type 0} (eq : F → F → Bool) → ((x y : F) → eq x y ≡ true → x ≡ y) → ((x : F) → eq x x ≡ true) → (a b : F) (answer : Bool) (t : Tree F) → answer ≡ eq a b → t ≡ constant a → Whether answer (t ≡ constant b)
compared eq same itself a b true t e is = is ∙ ap constant (same a b (sym e))
compared eq same itself a b false t e is = λ also. let both : a ≡ b = (let one : constant a ≡ constant b = sym is ∙ also in cc) in let clash : false ≡ true = e ∙ ap (eq a) (sym both) ∙ itself a in cc
