-- Values of nodes one by one, and constraints one after the other.
use Rattle.std.proofs.Common.{◌≡◌, ◌∙◌, ℕ, zero, suc, ◌+◌, ◌<◌, ◌≤◌, Bool, List, [], ◌∷◌, ◌++◌, Result, Ok, Err, IsErr, length, map, drop, get_or, refl, sym, ap, subst, arith, append_assoc}
use Rattle.std.proofs.lemmas.List.{drop_all, append-nil}
use Rattle.stark_support.specs.Operations.{Operations}
use Rattle.stark_support.proofs.Places.{from_place}
use Rattle.stark_air.specs.Emission.{EmissionLaws, Asserted}
use Rattle.stark_air.specs.Layout.{Layout}
use Rattle.stark_air.specs.Tree.{Tree, Constraint, constant, first_row}
use Rattle.stark_air.specs.Value.{Environment, value}
use Rattle.stark_tree_air.specs.Needed.{Marked, NodesMarked, OperandsMarked, ConstraintsMarked, constraint_place}
use Rattle.stark_tree_air.specs.Nodes.{tree_at, node_tree, trees_after, nodes_trees, NodeFits, NodesFit, ConstraintFits, ConstraintsFit, EachStands, Stand}
use Rattle.stark_tree_air.specs.declared.node.TreeNode.{TreeNode}
use Rattle.stark_tree_air.specs.declared.node.TreeConstraint.{TreeConstraint}

one_longer : {A : Type 0} (xs : List A) (x : A) → length (xs ++ x ∷ []) ≡ suc (length xs)
one_longer [] x = refl
one_longer (y ∷ xs) x = ap suc (one_longer xs x)

pub next_place : (k : ℕ) → suc k ≡ k + 1
next_place k = omega arith

module _ {F : Type 0} {E : Type 0} (stands : E → E → Type 0) (o : Operations F E) (e : Environment E) (ms : List Bool) where
  each_at : (k : ℕ) (ts : List (Tree F)) (xs : List E) (i : ℕ) (x : E) → EachStands stands o e ms k ts xs → i < length xs → Marked ms (k + i) → stands (value o e (get_or ts i first_row)) (get_or xs i x)
  each_at k [] [] i x h below m = absurd (omega arith)
  each_at k [] (y ∷ ys) i x h below m = absurd h
  each_at k (t ∷ ts) [] i x h below m = absurd h
  each_at k (t ∷ ts) (y ∷ ys) zero x h below m = h.0 (let here : k + 0 ≡ k = omega arith in subst (λ j. Marked ms j) here m)
  each_at k (t ∷ ts) (y ∷ ys) (suc i) x h below m = each_at (k + 1) ts ys i x h.1 (omega arith) (let here : k + suc i ≡ (k + 1) + i = omega arith in subst (λ j. Marked ms j) here m)

  each_length : (k : ℕ) (ts : List (Tree F)) (xs : List E) → EachStands stands o e ms k ts xs → length xs ≡ length ts
  each_length k [] [] h = refl
  each_length k [] (y ∷ ys) h = absurd h
  each_length k (t ∷ ts) [] h = absurd h
  each_length k (t ∷ ts) (y ∷ ys) h = ap suc (each_length (k + 1) ts ys h.1)

  each_more : (k : ℕ) (ts : List (Tree F)) (xs : List E) (t : Tree F) (x : E) → EachStands stands o e ms k ts xs → (Marked ms (k + length ts) → stands (value o e t) x) → EachStands stands o e ms k (ts ++ t ∷ []) (xs ++ x ∷ [])
  each_more k [] [] t x h p = (λ m. p (let here : k ≡ k + 0 = omega arith in subst (λ j. Marked ms j) here m), tt)
  each_more k [] (y ∷ ys) t x h p = absurd h
  each_more k (u ∷ ts) [] t x h p = absurd h
  each_more k (u ∷ ts) (y ∷ ys) t x h p = (h.0, each_more (k + 1) ts ys t x h.1 (λ m. p (let here : (k + 1) + length ts ≡ k + suc (length ts) = omega arith in subst (λ j. Marked ms j) here m)))

  -- The value at a place stands for the tree there.
  pub operand_stands : (ts : List (Tree F)) (xs : List E) (k : ℕ) (x : E) → Stand stands o e ms ts xs → k < length xs → Marked ms k → x ≡ get_or xs k x → stands (value o e (tree_at ts k)) x
  operand_stands ts xs k x h below m is =
      let here : k ≡ 0 + k = omega arith in
      subst (λ y. stands (value o e (tree_at ts k)) y) (sym is) (each_at 0 ts xs k x h.each below (subst (λ j. Marked ms j) here m))

  pub as_many : (ts : List (Tree F)) (xs : List E) → Stand stands o e ms ts xs → length xs ≡ length ts
  as_many ts xs h = each_length 0 ts xs h.each

  pub one_more : (ts : List (Tree F)) (xs : List E) (t : Tree F) (x : E) → Stand stands o e ms ts xs → (Marked ms (length ts) → stands (value o e t) x) → Stand stands o e ms (ts ++ t ∷ []) (xs ++ x ∷ [])
  one_more ts xs t x h p = record { each = each_more 0 ts xs t x h.each (λ m. p (let here : 0 + length ts ≡ length ts = omega arith in subst (λ j. Marked ms j) here m)) }

-- What is made of a constant of the list stands for its tree.
constant_at : {F : Type 0} (ks : List F) (i : ℕ) (k : F) → i < length ks → tree_at (map constant ks) i ≡ constant (get_or ks i k)
constant_at [] i k below = absurd (omega arith)
constant_at (j ∷ ks) zero k below = refl
constant_at (j ∷ ks) (suc i) k below = constant_at ks i k (omega arith)

pub constant_stands : {F : Type 0} {E : Type 0} (stands : E → E → Type 0) (o : Operations F E) (e : Environment E) (ks : List F) (i : ℕ) (k : F) (x : E) → stands (o.embed k) x → i < length ks → k ≡ get_or ks i k → stands (value o e (tree_at (map constant ks) i)) x
constant_stands stands o e ks i k x h below is = subst (λ t. stands (value o e t) x) (sym (constant_at ks i k below ∙ ap constant (sym is))) h

-- The values of the nodes before the place i, and what is left.
pub record NodesBegun {F : Type 0} {E : Type 0} (stands : E → E → Type 0) (o : Operations F E) (e : Environment E) (l : Layout) (ms : List Bool) (ks : List F) (ns : List TreeNode) (i : ℕ) (xs : List E) : Type 0 where
  pub so_far : List (Tree F)
  pub leads : trees_after ks so_far (drop i ns) ≡ nodes_trees ks ns
  pub standing : Stand stands o e ms so_far xs
  pub many : length xs ≡ i
  pub fit : NodesFit l (length ks) (length xs) (drop i ns)
  pub marked : NodesMarked ms i (drop i ns)

module _ {F : Type 0} {E : Type 0} (stands : E → E → Type 0) (o : Operations F E) (e : Environment E) (l : Layout) (ms : List Bool) (ks : List F) (ns : List TreeNode) where
  pub nodes_start : (xs : List E) → xs ≡ [] → NodesFit l (length ks) 0 ns → NodesMarked ms 0 ns → NodesBegun stands o e l ms ks ns 0 xs
  nodes_start xs none fit marked = record {
    so_far = [];
    leads = refl;
    standing = record { each = subst (λ ys. EachStands stands o e ms 0 [] ys) (sym none) tt };
    many = ap length none;
    fit = subst (λ ys. NodesFit l (length ks) (length ys) ns) (sym none) fit;
    marked = marked;
  }

  module _ (i : ℕ) (n : TreeNode) (xs : List E) (within : i < length ns) (is : n ≡ get_or ns i n) (begun : NodesBegun stands o e l ms ks ns i xs) where
    here : drop i ns ≡ n ∷ drop (i + 1) ns
    here = from_place ns i (i + 1) n refl within is

    fitting : NodesFit l (length ks) (length xs) (n ∷ drop (i + 1) ns)
    fitting = subst (λ js. NodesFit l (length ks) (length xs) js) here begun.fit

    pub node_fits : NodeFits l (length ks) (length xs) n
    node_fits = fitting.0

    needing : NodesMarked ms i (n ∷ drop (i + 1) ns)
    needing = subst (λ js. NodesMarked ms i js) here begun.marked

    -- One more value, which stands for its tree where it has a mark.
    pub nodes_step : (read : List E) (x : E) (ys : List E) → read ≡ xs → ys ≡ xs ++ x ∷ [] → ((ts : List (Tree F)) → Stand stands o e ms ts read → OperandsMarked ms n → Marked ms i → stands (value o e (node_tree ks ts n)) x) → NodesBegun stands o e l ms ks ns (i + 1) ys
    nodes_step read x ys same pushed stood =
        let tree = node_tree ks begun.so_far n in
        let place : length begun.so_far ≡ i = sym (as_many stands o e ms begun.so_far xs begun.standing) ∙ begun.many in
        let stands_there : Marked ms i → stands (value o e tree) x = λ m. stood begun.so_far (subst (λ zs. Stand stands o e ms begun.so_far zs) (sym same) begun.standing) (needing.0 m) m in
        let longer : length ys ≡ suc (length xs) = ap length pushed ∙ one_longer xs x in
        record {
          so_far = begun.so_far ++ tree ∷ [];
          leads = sym (ap (λ js. trees_after ks begun.so_far js) here) ∙ begun.leads;
          standing = subst (λ zs. Stand stands o e ms (begun.so_far ++ tree ∷ []) zs) (sym pushed) (one_more stands o e ms begun.so_far xs tree x begun.standing (λ m. stands_there (subst (λ j. Marked ms j) place m)));
          many = longer ∙ ap suc begun.many ∙ next_place i;
          fit = subst (λ k. NodesFit l (length ks) k (drop (i + 1) ns)) (sym longer) fitting.1;
          marked = needing.1;
        }

  -- All values, where no node is left.
  pub nodes_end : (i : ℕ) (xs : List E) → length ns ≤ i → NodesBegun stands o e l ms ks ns i xs → Stand stands o e ms (nodes_trees ks ns) xs
  nodes_end i xs ended begun =
      subst (λ ts. Stand stands o e ms ts xs) (sym (ap (λ js. trees_after ks begun.so_far js) (drop_all i ns ended)) ∙ begun.leads) begun.standing

-- An element is the one at its place, whatever stands for a missing one.
pub at_place : {A : Type 0} (xs : List A) (i : ℕ) (d e : A) → i < length xs → get_or xs i d ≡ get_or xs i e
at_place [] i d e below = absurd (omega arith)
at_place (x ∷ xs) zero d e below = refl
at_place (x ∷ xs) (suc i) d e below = at_place xs i d e (omega arith)

-- The constraints before the place i were asserted.
pub record AssertedSoFar {A : Type 0} {F : Type 0} {S : Type 0} (after : S → List (Constraint F) → S → Type 0) (f : A → Constraint F) (cs : List A) (s : S) (i : ℕ) (t : S) : Type 0 where
  pub done : List (Constraint F)
  pub leads : done ++ map f (drop i cs) ≡ map f cs
  pub asserted : after s done t

module _ {A : Type 0} {F : Type 0} {S : Type 0} {E : Type 0} {environment : S → Environment E} {layout : S → Layout} {after : S → List (Constraint F) → S → Type 0} (laws : EmissionLaws environment layout after) (f : A → Constraint F) (cs : List A) (s : S) where
  pub asserted_none : AssertedSoFar after f cs s 0 s
  asserted_none = record { done = []; leads = refl; asserted = laws.nothing s }

  pub asserted_one : (i : ℕ) (c : A) (t u : S) → i < length cs → c ≡ get_or cs i c → AssertedSoFar after f cs s i t → after t (f c ∷ []) u → AssertedSoFar after f cs s (i + 1) u
  asserted_one i c t u within is begun h = record {
    done = begun.done ++ f c ∷ [];
    leads = append_assoc begun.done (f c ∷ []) (map f (drop (i + 1) cs)) ∙ ap (λ ds. begun.done ++ map f ds) (sym (from_place cs i (i + 1) c refl within is)) ∙ begun.leads;
    asserted = laws.both s t u begun.done (f c ∷ []) begun.asserted h;
  }

  -- The next one was refused.
  pub asserted_some : {X : Type 0} {Y : Type 0} (r : Result X Y) (i : ℕ) (t u : S) → IsErr r → AssertedSoFar after f cs s i t → after t [] u → Asserted after r s (map f cs) u
  asserted_some (Err v) i t u is begun h = record {
    beginning = begun.done ++ [];
    rest = map f (drop i cs);
    joined = ap (λ ds. ds ++ map f (drop i cs)) (append-nil begun.done) ∙ begun.leads;
    asserted = laws.both s t u begun.done [] begun.asserted h;
  }
  asserted_some (Ok v) i t u is begun h = absurd (cc)

module _ (count : ℕ) (cs : List TreeConstraint) (i : ℕ) (c : TreeConstraint) (within : i < length cs) (is : c ≡ get_or cs i c) (fit : ConstraintsFit count (drop i cs)) where
  both_fit : ConstraintsFit count (c ∷ drop (i + 1) cs)
  both_fit = subst (λ ds. ConstraintsFit count ds) (from_place cs i (i + 1) c refl within is) fit

  pub constraint_fits : ConstraintFits count c
  constraint_fits = both_fit.0

  pub rest_fits : ConstraintsFit count (drop (i + 1) cs)
  rest_fits = both_fit.1

module _ (ms : List Bool) (cs : List TreeConstraint) (i : ℕ) (c : TreeConstraint) (within : i < length cs) (is : c ≡ get_or cs i c) (marked : ConstraintsMarked ms (drop i cs)) where
  both_marked : ConstraintsMarked ms (c ∷ drop (i + 1) cs)
  both_marked = subst (λ ds. ConstraintsMarked ms ds) (from_place cs i (i + 1) c refl within is) marked

  pub constraint_marked : Marked ms (constraint_place c)
  constraint_marked = both_marked.0

  pub rest_marked : ConstraintsMarked ms (drop (i + 1) cs)
  rest_marked = both_marked.1

pub trees_length : {F : Type 0} (ks : List F) (ts : List (Tree F)) (ns : List TreeNode) → length (trees_after ks ts ns) ≡ length ts + length ns
trees_length ks ts [] = omega arith
trees_length ks ts (n ∷ ns) =
    let rest = trees_length ks (ts ++ node_tree ks ts n ∷ []) ns in
    let longer = one_longer ts (node_tree ks ts n) in
    omega (arith, rest, longer)

-- There are as many values as nodes.
pub nodes_length : {F : Type 0} {E : Type 0} (stands : E → E → Type 0) (o : Operations F E) (e : Environment E) (ms : List Bool) (ks : List F) (ns : List TreeNode) (xs : List E) → Stand stands o e ms (nodes_trees ks ns) xs → length xs ≡ length ns
nodes_length stands o e ms ks ns xs h = let all = trees_length ks [] ns in let both = as_many stands o e ms (nodes_trees ks ns) xs h in omega (arith, all, both)
