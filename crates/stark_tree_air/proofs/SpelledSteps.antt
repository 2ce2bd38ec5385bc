-- The constraints that constants and nodes spell, asserted one after the other by the values of the nodes.
use Rattle.std.proofs.Common.{◌≡◌, ◌∙◌, ℕ, ◌+◌, ◌<◌, Bool, List, [], ◌∷◌, Result, Ok, Err, IsErr, length, drop, get_or, refl, sym, subst}
use Rattle.stark_support.specs.Operations.{Operations}
use Rattle.stark_air.specs.Emission.{EmissionLaws, Asserted}
use Rattle.stark_air.specs.Layout.{Layout}
use Rattle.stark_air.specs.Tree.{Tree, Constraint}
use Rattle.stark_air.specs.Value.{Environment, value}
use Rattle.stark_tree_air.specs.Needed.{ConstraintsMarked, Marked, constraint_place}
use Rattle.stark_tree_air.specs.Nodes.{ConstraintsFit, Stand, marked_tree, nodes_trees, spelled, tree_at}
use Rattle.stark_tree_air.specs.declared.node.TreeNode.{TreeNode}
use Rattle.stark_tree_air.specs.declared.node.TreeConstraint.{TreeConstraint}
use Rattle.stark_tree_air.proofs.Steps.{AssertedSoFar, asserted_none, asserted_one, asserted_some, constraint_marked, rest_fits, rest_marked}

-- The constraints before the place i were asserted; the values stand for the trees, and the other constraints name nodes with marks.
pub record SpelledSoFar {F S E : Type 0} (environment : S → Environment E) (after : S → List (Constraint F) → S → Type 0) (stands : E → E → Type 0) (o : Operations F E) (ks : List F) (ns : List TreeNode) (cs : List TreeConstraint) (ms : List Bool) (xs : List E) (s : S) (i : ℕ) (t : S) : Type 0 where
  pub same_environment : environment t ≡ environment s
  pub standing : Stand stands o (environment s) ms (nodes_trees ks ns) xs
  pub fit : ConstraintsFit (length xs) (drop i cs)
  pub marked : ConstraintsMarked ms (drop i cs)
  pub begun : AssertedSoFar after (marked_tree (nodes_trees ks ns)) cs s i t

module _ {F S E : Type 0} {environment : S → Environment E} {layout : S → Layout} {after : S → List (Constraint F) → S → Type 0} (laws : EmissionLaws environment layout after) (stands : E → E → Type 0) (o : Operations F E) (ks : List F) (ns : List TreeNode) (cs : List TreeConstraint) (ms : List Bool) (xs : List E) (s : S) where
  abbrev SoFar : ℕ → S → Type 0
  SoFar = SpelledSoFar environment after stands o ks ns cs ms xs s

  pub spelled_none : Stand stands o (environment s) ms (nodes_trees ks ns) xs → ConstraintsFit (length xs) cs → ConstraintsMarked ms cs → SoFar 0 s
  spelled_none standing fit marked = record { same_environment = refl; standing = standing; fit = fit; marked = marked; begun = asserted_none laws (marked_tree (nodes_trees ks ns)) cs s }

  module _ (i : ℕ) (t : S) (begun : SoFar i t) where
    pub spelled_some : {X Y : Type 0} (r : Result X Y) (u : S) → IsErr r → after t [] u → Asserted after r s (spelled ks ns cs) u
    spelled_some r u is left = asserted_some laws (marked_tree (nodes_trees ks ns)) cs s r i t u is begun.begun left

    module _ (c : TreeConstraint) (within : i < length cs) (is : c ≡ get_or cs i c) where
      -- One more, by the value at its node's place.
      pub spelled_one : (ys : List E) (place : ℕ) (x : E) (u : S) → ys ≡ xs → place ≡ constraint_place c
          → ((e : Environment E) (js : List Bool) (ts : List (Tree F)) → Stand stands o e js ts ys → Marked js place → stands (value o e (tree_at ts place)) x)
          → ((ts : List (Tree F)) → stands (value o (environment t) (tree_at ts (constraint_place c))) x → after t (marked_tree ts c ∷ []) u) → environment u ≡ environment t → SoFar (i + 1) u
      spelled_one ys place x u values here shows asserts same =
          let trees = nodes_trees ks ns in
          let p = constraint_place c in
          let at_c : (e : Environment E) (js : List Bool) (ts : List (Tree F)) → Stand stands o e js ts ys → Marked js p → stands (value o e (tree_at ts p)) x =
          subst (λ k. (e : Environment E) (js : List Bool) (ts : List (Tree F)) → Stand stands o e js ts ys → Marked js k → stands (value o e (tree_at ts k)) x) here shows in
          let there : stands (value o (environment s) (tree_at trees p)) x =
          at_c (environment s) ms trees (subst (λ zs. Stand stands o (environment s) ms trees zs) (sym values) begun.standing) (constraint_marked ms cs i c within is begun.marked) in
          record {
            same_environment = same ∙ begun.same_environment;
            standing = begun.standing;
            fit = rest_fits (length xs) cs i c within is begun.fit;
            marked = rest_marked ms cs i c within is begun.marked;
            begun = asserted_one laws (marked_tree trees) cs s i c t u within is begun.begun (asserts trees (subst (λ e. stands (value o e (tree_at trees p)) x) (sym begun.same_environment) there));
          }

-- The values stand for the trees of equal lists.
pub same_standing : {F E : Type 0} (stands : E → E → Type 0) (o : Operations F E) (e : Environment E) (ms js : List Bool) (ks ls : List F) (ns os : List TreeNode) (xs : List E) → ms ≡ js → ks ≡ ls → ns ≡ os
    → Stand stands o e ms (nodes_trees ks ns) xs → Stand stands o e js (nodes_trees ls os) xs
same_standing stands o e ms js ks ls ns os xs marks constants nodes h =
    subst (λ m. Stand stands o e m (nodes_trees ls os) xs) marks (subst (λ k. Stand stands o e ms (nodes_trees k os) xs) constants (subst (λ n. Stand stands o e ms (nodes_trees ks n) xs) nodes h))

-- Nothing was asserted.
pub none_asserted : {F S E X Y : Type 0} {environment : S → Environment E} {layout : S → Layout} {after : S → List (Constraint F) → S → Type 0} (laws : EmissionLaws environment layout after) (r : Result X Y) (s : S) (cs : List (Constraint F)) → IsErr r → Asserted after r s cs s
none_asserted laws (Err e) s cs is = record { beginning = []; rest = cs; joined = refl; asserted = laws.nothing s }
none_asserted laws (Ok v) s cs is = absurd (cc)
