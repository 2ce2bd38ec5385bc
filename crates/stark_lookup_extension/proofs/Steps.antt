-- Nodes that are written after others, and what stands at their places.
use Rattle.std.proofs.Common.{◌≡◌, ◌∙◌, ℕ, zero, suc, ◌+◌, ◌<◌, Bool, true, false, List, [], ◌∷◌, ◌++◌, Result, Ok, Err, IfOk, OnOk, Some, length, map, get_or, slice_get, refl, sym, ap, subst, arith}
use Rattle.std.proofs.lemmas.Option.{get_or_from_slice_get, slice_get_within}
use Rattle.std.specs.declared.vec.Vec.{Vec}
use Rattle.stark_support.specs.Faults.{PlaceByPlace}
use Rattle.stark_air.specs.Layout.{Layout}
use Rattle.stark_air.specs.Tree.{Tree, constant, first_row}
use Rattle.stark_tree_air.specs.Nodes.{tree_at, node_tree, trees_after, NodeFits, NodesFit}
use Rattle.stark_tree_air.specs.Writing.{Holds}
use Rattle.stark_tree_air.specs.declared.list.TreeList.{TreeList}
use Rattle.stark_tree_air.specs.declared.node.TreeNode.{TreeNode}
use Rattle.stark_tree_air.specs.declared.node.TreeNode.TheVariants.{Constant}
use Rattle.stark_tree_air.proofs.WrittenTrees.{as_many_trees, constant_written, longer}
use Rattle.stark_lookup_extension.specs.Written.{StandsAt, Stand, RowsStand, TableStands, KeepPlaces, Spelling, Written}

-- ---- places

pub stands_then : {A : Type 0} (xs ys : List A) (p : ℕ) (x : A) → slice_get xs p ≡ Some x → slice_get (xs ++ ys) p ≡ Some x
stands_then [] ys p x e = absurd (cc)
stands_then (y ∷ xs) ys zero x e = e
stands_then (y ∷ xs) ys (suc p) x e = stands_then xs ys p x e

pub stands_last : {A : Type 0} (xs : List A) (x : A) → slice_get (xs ++ x ∷ []) (length xs) ≡ Some x
stands_last [] x = refl
stands_last (y ∷ xs) x = stands_last xs x

pub tree_there : {F : Type 0} (ts : List (Tree F)) (p : ℕ) (t : Tree F) → StandsAt ts p t → tree_at ts p ≡ t
tree_there ts p t e = get_or_from_slice_get ts p t first_row e

-- ---- lists that agree place by place

pub each_of : {A B : Type 0} (R S : A → B → Type 0) → ((x : A) (y : B) → R x y → S x y) → (xs : List A) (ys : List B) → PlaceByPlace R xs ys → PlaceByPlace S xs ys
unfolding PlaceByPlace
each_of R S f [] [] h = h
each_of R S f [] (y ∷ ys) h = h
each_of R S f (x ∷ xs) [] h = h
each_of R S f (x ∷ xs) (y ∷ ys) h = (f x y h.0, each_of R S f xs ys h.1)

pub one_after : {A B : Type 0} (R : A → B → Type 0) (xs : List A) (ys : List B) (x : A) (y : B) → PlaceByPlace R xs ys → R x y → PlaceByPlace R (xs ++ x ∷ []) (ys ++ y ∷ [])
unfolding PlaceByPlace
one_after R [] [] x y h r = (r, h)
one_after R [] (z ∷ ys) x y h r = absurd h
one_after R (z ∷ xs) [] x y h r = absurd h
one_after R (z ∷ xs) (w ∷ ys) x y h r = (h.0, one_after R xs ys x y h.1 r)

pub all_after : {A B : Type 0} (R : A → B → Type 0) (xs vs : List A) (ys ws : List B) → PlaceByPlace R xs ys → PlaceByPlace R vs ws → PlaceByPlace R (xs ++ vs) (ys ++ ws)
unfolding PlaceByPlace
all_after R [] vs [] ws h r = r
all_after R [] vs (z ∷ ys) ws h r = absurd h
all_after R (z ∷ xs) vs [] ws h r = absurd h
all_after R (z ∷ xs) vs (w ∷ ys) ws h r = (h.0, all_after R xs vs ys ws h.1 r)

pub none_yet : {A B : Type 0} (R : A → B → Type 0) → PlaceByPlace R [] []
unfolding PlaceByPlace
none_yet R = tt

-- ---- what stood still does

abbrev pub Keep : {F X U : Type 0} → (List (Tree F) → X → U → Type 0) → Type 0
Keep {F = F} {X} {U} R = (ts us : List (Tree F)) → KeepPlaces ts us → (x : X) (u : U) → R ts x u → R us x u

pub place_kept : {F : Type 0} → Keep {F = F} StandsAt
place_kept ts us k x u h = k x u h

pub each_kept : {F X U : Type 0} (R : List (Tree F) → X → U → Type 0) → Keep R → Keep (λ ts xs us. PlaceByPlace (R ts) xs us)
each_kept R keep ts us k xs vs h = each_of (R ts) (R us) (keep ts us k) xs vs h

pub stand_kept : {F : Type 0} → Keep {F = F} Stand
stand_kept = each_kept StandsAt place_kept

pub rows_kept : {F A : Type 0} → Keep {F = F} (RowsStand {A = A})
rows_kept ts us k rows vss h = each_of (λ row vs. Stand ts row.items vs) (λ row vs. Stand us row.items vs) (λ row vs. stand_kept ts us k row.items vs) rows vss h

pub table_kept : {F A B : Type 0} → Keep {F = F} (TableStands {A = A} {B = B})
table_kept ts us k table vsss h = each_of (λ rows vss. RowsStand ts rows.items vss) (λ rows vss. RowsStand us rows.items vss) (λ rows vss. rows_kept ts us k rows.items vss) table vsss h

-- ---- one call after another

module _ {F : Type 0} {l : Layout} {ts : List (Tree F)} where
  pub unchanged : {M : List (Tree F) → Type 0} (list : TreeList F) → Spelling l list ts → M ts → Written l ts list list M
  unchanged list h m = record { trees = ts; kept = λ p t e. e; spelling = h; constraints = refl; made = m }

  pub after_it : {M N : List (Tree F) → Type 0} (a b c : TreeList F) (w : Written l ts a b M) → Written l w.trees b c N → Written l ts a c N
  after_it a b c w v = record {
    trees = v.trees;
    kept = λ p t e. v.kept p t (w.kept p t e);
    spelling = v.spelling;
    constraints = v.constraints ∙ w.constraints;
    made = v.made;
  }

  pub so_made : {M N : List (Tree F) → Type 0} (a b : TreeList F) (w : Written l ts a b M) → N w.trees → Written l ts a b N
  so_made a b w n = record { trees = w.trees; kept = w.kept; spelling = w.spelling; constraints = w.constraints; made = n }

-- ---- one more node

trees_of_both : {F : Type 0} (ks : List F) (ts : List (Tree F)) (ns ms : List TreeNode) → trees_after ks ts (ns ++ ms) ≡ trees_after ks (trees_after ks ts ns) ms
trees_of_both ks ts [] ms = refl
trees_of_both ks ts (n ∷ ns) ms = trees_of_both ks (ts ++ node_tree ks ts n ∷ []) ns ms

last_fits : (l : Layout) (m k : ℕ) (ns : List TreeNode) (n : TreeNode) → NodesFit l m k ns → ((j : ℕ) → j ≡ k + length ns → NodeFits l m j n) → NodesFit l m k (ns ++ n ∷ [])
last_fits l m k [] n f g = (g k (omega arith), tt)
last_fits l m k (x ∷ ns) n f g = (f.0, last_fits l m (suc k) ns n f.1 (λ j e. g j (omega (arith, e))))

module _ {F : Type 0} (l : Layout) (ts : List (Tree F)) (old new : TreeList F) (p : ℕ) (h : Spelling l old ts) where
  -- a node that is this tree
  pub node_written : (n : TreeNode) (t : Tree F) → NodeFits l (length old.constants.items) (length ts) n → node_tree old.constants.items ts n ≡ t → new.constants.items ≡ old.constants.items
      → new.constraints.items ≡ old.constraints.items → new.nodes.items ≡ old.nodes.items ++ n ∷ [] → p ≡ length old.nodes.items → Written l ts old new (λ us. StandsAt us p t)
  node_written n t fits is constants constraints pushed at =
      let ks = old.constants.items in
      let ns = old.nodes.items in
      let many = as_many_trees l ks ns ts h in
      let place : p ≡ length ts = at ∙ sym many in
      let trees : trees_after ks [] (ns ++ n ∷ []) ≡ ts ++ t ∷ [] = trees_of_both ks [] ns (n ∷ []) ∙ ap (λ us. us ++ node_tree ks us n ∷ []) h.trees ∙ ap (λ u. ts ++ u ∷ []) is in
      let fit : NodesFit l (length ks) 0 (ns ++ n ∷ []) = last_fits l (length ks) 0 ns n h.fit (λ j e. let here : length ts ≡ j = omega (arith, e, many) in subst (λ i. NodeFits l (length ks) i n) here fits) in
      record {
        trees = ts ++ t ∷ [];
        kept = λ q u e. stands_then ts (t ∷ []) q u e;
        spelling =
            subst (λ js. Holds l js new.nodes.items (ts ++ t ∷ [])) (sym constants)
            (subst (λ ms. Holds l ks ms (ts ++ t ∷ [])) (sym pushed) (record { trees = trees; fit = fit }));
        constraints = constraints;
        made = subst (λ q. StandsAt (ts ++ t ∷ []) q t) (sym place) (stands_last ts t);
      }

  -- a constant of its own
  pub own_constant : (k : F) → new.constants.items ≡ old.constants.items ++ k ∷ [] → new.constraints.items ≡ old.constraints.items → new.nodes.items ≡ old.nodes.items ++ Constant (length old.constants.items) ∷ []
      → p ≡ length old.nodes.items → Written l ts old new (λ us. StandsAt us p (constant k))
  own_constant k added constraints pushed at =
      let written = (constant_written old new p k added pushed at).behind l ts h tt in
      let front = ts ++ written.more in
      record {
        trees = front ++ constant k ∷ [];
        kept = λ q u e. stands_then front (constant k ∷ []) q u (stands_then ts written.more q u e);
        spelling = written.holds;
        constraints = constraints;
        made = subst (λ q. StandsAt (front ++ constant k ∷ []) q (constant k)) (sym written.place) (stands_last front (constant k));
      }
