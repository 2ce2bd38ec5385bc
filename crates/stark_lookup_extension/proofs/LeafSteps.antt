-- Leaves and constants that are written one after the other.
use Rattle.std.proofs.Common.{◌≡◌, ◌∙◌, ℕ, zero, suc, ◌+◌, ◌-◌, ◌*◌, ◌<◌, ◌≤◌, List, [], ◌∷◌, ◌++◌, length, map, slice_get, Some, refl, sym, ap, subst, arith, append_assoc}
use Rattle.std.proofs.Math.Nat.{mul-le-mul_right, suc-mul, zero-mul}
use Rattle.std.proofs.lemmas.List.{append-nil}
use Rattle.stark_support.specs.Ring.{RingOps}
use Rattle.stark_support.specs.Faults.{PlaceByPlace}
use Rattle.stark_air.specs.Layout.{Layout, TreeWithin}
use Rattle.stark_air.specs.Tree.{Tree, constant}
use Rattle.stark_lookup_air.specs.LookupConstraints.{blocks_from, from_place}
use Rattle.stark_tree_air.specs.Nodes.{node_tree, NodeFits}
use Rattle.stark_tree_air.specs.declared.list.TreeList.{TreeList}
use Rattle.stark_lookup_extension.specs.Leaves.{WritesLeaves, leaf_node, leaf_tree, product_row}
use Rattle.stark_lookup_extension.specs.Written.{Spelling, Stand, StandsAt, Written, WritesKnown, WritesOne}
use Rattle.stark_lookup_extension.specs.declared.leaves.Leaf.{Leaf}
use Rattle.stark_lookup_extension.specs.declared.leaves.Leaf.TheVariants.{Main, Next, Public}
use Rattle.stark_lookup_extension.proofs.Loops.{EachSoFar, each_all, each_none, each_one}
use Rattle.stark_lookup_extension.proofs.Steps.{Keep, after_it, each_kept, node_written, none_yet, one_after, so_made, unchanged}

-- ---- what needs nothing, of each of a list

module _ {F Y P W : Type 0} (Q : List (Tree F) → P → W → Type 0) (f : Y → W) where
  abbrev Itself : List (Tree F) → Y → Y → Type 0
  Itself ts y v = v ≡ y

  abbrev pub KnownSoFar : TreeList F → List Y → ℕ → List P → TreeList F → Type 0
  KnownSoFar old ys i ps new = EachSoFar Itself Q f old ys i ps new

  itself_kept : Keep Itself
  itself_kept ts us k x u h = h

  each_itself : (ts : List (Tree F)) (ys : List Y) → PlaceByPlace (Itself ts) ys ys
  unfolding PlaceByPlace
  each_itself ts [] = tt
  each_itself ts (y ∷ ys) = (refl, each_itself ts ys)

  pub known_none : (list : TreeList F) (ys : List Y) (ps : List P) → ps ≡ [] → KnownSoFar list ys 0 ps list
  known_none list ys ps none = each_none Itself Q f list ys ps none

  pub known_one : Keep Q → (a b c : TreeList F) (ys : List Y) (i : ℕ) (y : Y) (p : P) (ps qs : List P) → slice_get ys i ≡ Some y → qs ≡ ps ++ p ∷ [] → KnownSoFar a ys i ps b → WritesKnown Q (f y) b p c → KnownSoFar a ys (i + 1) qs c
  known_one keep a b c ys i y p ps qs is pushed so_far one =
      each_one Itself Q f itself_kept keep a b c ys i y p ps qs is pushed so_far (λ l ts v h s. let w = one l ts h in so_made b c w (subst (λ z. Q w.trees p (f z)) (sym s) w.made))

  pub known_all : (a b : TreeList F) (ys : List Y) (i : ℕ) (ps : List P) → length ys ≤ i → KnownSoFar a ys i ps b → WritesKnown (λ ts zs ws. PlaceByPlace (Q ts) zs ws) (map f ys) a ps b
  known_all a b ys i ps ended so_far l ts h = each_all Itself Q f a b ys i ps ended so_far l ts ys h (each_itself ts ys)

-- ---- leaves

leaf_fits : (F : Type 0) (leaf : Leaf) (c : ℕ) (l : Layout) (m k : ℕ) → TreeWithin {F = F} l (leaf_tree leaf c) → NodeFits l m k (leaf_node leaf c)
leaf_fits F Main c l m k h = h
leaf_fits F Next c l m k h = h
leaf_fits F Public c l m k h = h

leaf_is : {F : Type 0} (leaf : Leaf) (c : ℕ) (ks : List F) (ts : List (Tree F)) → node_tree ks ts (leaf_node leaf c) ≡ leaf_tree leaf c
leaf_is Main c ks ts = refl
leaf_is Next c ks ts = refl
leaf_is Public c ks ts = refl

-- the leaves, or blocks of them, before the place i
pub record LeavesBegun {F P W : Type 0} (Q : List (Tree F) → P → W → Type 0) (rest whole : List W) (ts : List (Tree F)) (ps : List P) : Type 0 where
  pub done : List W
  pub made : PlaceByPlace (Q ts) ps done
  pub split : done ++ rest ≡ whole

module _ {F P W : Type 0} (Q : List (Tree F) → P → W → Type 0) (leaf : Leaf) (end : ℕ) where
  abbrev pub LeavesSoFar : List W → List W → TreeList F → List P → TreeList F → Type 0
  LeavesSoFar rest whole old ps new = (l : Layout) (ts : List (Tree F)) → Spelling l old ts → ((c : ℕ) → c < end → TreeWithin {F = F} l (leaf_tree leaf c)) → Written l ts old new (λ us. LeavesBegun Q rest whole us ps)

  pub leaves_none : (list : TreeList F) (whole : List W) (ps : List P) → ps ≡ [] → LeavesSoFar whole whole list ps list
  leaves_none list whole ps none l ts h fits = unchanged list h (record {
    done = [];
    made = subst (λ qs. PlaceByPlace (Q ts) qs []) (sym none) (none_yet (Q ts));
    split = refl;
  })

  pub leaves_one : Keep Q → (a b c : TreeList F) (rest later whole : List W) (next : W) (p : P) (ps qs : List P) → rest ≡ next ∷ later → qs ≡ ps ++ p ∷ [] → LeavesSoFar rest whole a ps b
      → ((l : Layout) (ts : List (Tree F)) → Spelling l b ts → ((c : ℕ) → c < end → TreeWithin {F = F} l (leaf_tree leaf c)) → Written l ts b c (λ us. Q us p next)) → LeavesSoFar later whole a qs c
  leaves_one keep a b c rest later whole next p ps qs opened pushed so_far one l ts h fits =
      let w = so_far l ts h fits in
      let begun = w.made in
      let v = one l w.trees w.spelling fits in
      after_it a b c w (so_made b c v (record {
        done = begun.done ++ next ∷ [];
        made = subst (λ zs. PlaceByPlace (Q v.trees) zs (begun.done ++ next ∷ [])) (sym pushed) (one_after (Q v.trees) ps begun.done p next (each_kept Q keep w.trees v.trees v.kept ps begun.done begun.made) v.made);
        split = append_assoc begun.done (next ∷ []) later ∙ ap (λ zs. begun.done ++ zs) (sym opened) ∙ begun.split;
      }))

  pub leaves_all : (a b : TreeList F) (rest whole : List W) (ps : List P) → rest ≡ [] → LeavesSoFar rest whole a ps b → WritesLeaves leaf end (λ ts zs ws. PlaceByPlace (Q ts) zs ws) whole a ps b
  leaves_all a b rest whole ps ended so_far l ts h fits =
      let w = so_far l ts h fits in
      let begun = w.made in
      let all : begun.done ≡ whole = sym (append-nil begun.done) ∙ ap (λ zs. begun.done ++ zs) (sym ended) ∙ begun.split in
      so_made a b w (subst (λ zs. PlaceByPlace (Q w.trees) ps zs) all begun.made)

  pub same_rest : (leaf_at : ℕ → W) (i n m : ℕ) → n ≡ m → (list : TreeList F) (ps : List P) → ps ≡ [] → LeavesSoFar (from_place leaf_at i n) (from_place leaf_at i m) list ps list
  same_rest leaf_at i n m e list ps none = subst (λ k. LeavesSoFar (from_place leaf_at i k) (from_place leaf_at i m) list ps list) (sym e) (leaves_none list (from_place leaf_at i m) ps none)

-- one leaf
pub leaf_written : {F : Type 0} (leaf : Leaf) (end c p : ℕ) (b new : TreeList F) → c < end → new.constants.items ≡ b.constants.items → new.constraints.items ≡ b.constraints.items → new.nodes.items ≡ b.nodes.items ++ leaf_node leaf c ∷ []
    → p ≡ length b.nodes.items → (l : Layout) (ts : List (Tree F)) → Spelling l b ts → ((c : ℕ) → c < end → TreeWithin {F = F} l (leaf_tree leaf c)) → Written l ts b new (λ us. StandsAt us p (leaf_tree leaf c))
leaf_written {F = F} leaf end c p b new within constants constraints pushed at l ts h fits =
    node_written l ts b new p h (leaf_node leaf c) (leaf_tree leaf c) (leaf_fits F leaf c l (length b.constants.items) (length ts) (fits c within)) (leaf_is leaf c b.constants.items ts) constants constraints pushed at

module _ {A : Type 0} (f : ℕ → A) where
  pub next_from : (i n m : ℕ) → n ≡ suc m → from_place f i n ≡ f i ∷ from_place f (i + 1) m
  next_from i n m e = ap (from_place f i) e ∙ ap (λ j. f i ∷ from_place f j m) (let same : suc i ≡ i + 1 = omega arith in same)

  pub none_from : (i n : ℕ) → n ≡ 0 → from_place f i n ≡ []
  none_from i n e = ap (from_place f i) e

  pub next_block : (start next size n m : ℕ) → n ≡ suc m → start + size ≡ next → blocks_from f start size n ≡ from_place f start size ∷ blocks_from f next size m
  next_block start next size n m e after = ap (blocks_from f start size) e ∙ ap (λ j. from_place f start size ∷ blocks_from f j size m) after

  pub none_block : (start size n : ℕ) → n ≡ 0 → blocks_from f start size n ≡ []
  none_block start size n e = ap (blocks_from f start size) e

-- There is room for each block.
pub block_room : (first count size i : ℕ) → i < count → (first + i * size) + size ≤ first + count * size
block_room first count size i below =
    let le : suc i * size ≤ count * size = mul-le-mul_right size (let h : suc i ≤ count = omega (arith, below) in h) in
    let more = suc-mul i size in
    omega (arith, le, more)

pub next_start : (first size i : ℕ) → (first + i * size) + size ≡ first + (i + 1) * size
next_start first size i = let more = suc-mul i size in let same : suc i * size ≡ (i + 1) * size = (let e : suc i ≡ i + 1 = omega arith in ap (λ n. n * size) e) in omega (arith, more, same)

pub no_start : (first size : ℕ) → first + 0 * size ≡ first
no_start first size = let none : 0 * size ≡ 0 = zero-mul size in omega (arith, none)

pub blocks_start : {F P W : Type 0} (Q : List (Tree F) → P → List W → Type 0) (leaf : Leaf) (end : ℕ) (f : ℕ → W) (first size count : ℕ) (list : TreeList F) (ps : List P) → ps ≡ []
    → LeavesSoFar Q leaf end (blocks_from f (first + 0 * size) size (count - 0)) (blocks_from f first size count) list ps list
blocks_start Q leaf end f first size count list ps none =
    let whole : count ≡ count - 0 = omega arith in
    subst (λ n. LeavesSoFar Q leaf end (blocks_from f (first + 0 * size) size n) (blocks_from f first size count) list ps list) whole
    (subst (λ n. LeavesSoFar Q leaf end (blocks_from f n size count) (blocks_from f first size count) list ps list) (sym (no_start first size)) (leaves_none Q leaf end list (blocks_from f first size count) ps none))

-- one block, of leaves up to an end that is further on
pub leaf_block : {F W P : Type 0} (Q : List (Tree F) → P → W → Type 0) (w : W) (leaf : Leaf) (start end size : ℕ) → start + size ≤ end → (b c : TreeList F) (p : P) → WritesLeaves leaf (start + size) Q w b p c
    → (l : Layout) (ts : List (Tree F)) → Spelling l b ts → ((c : ℕ) → c < end → TreeWithin {F = F} l (leaf_tree leaf c)) → Written l ts b c (λ us. Q us p w)
leaf_block Q w leaf start end size room b c p one l ts h fits = one l ts h (λ i below. fits i (omega (arith, room, below)))

-- the rows of a table of products
pub rows_mapped : {F E : Type 0} (ring : RingOps E) (basis : List E) (coordinates : E → List F) (es : List E) → map (product_row ring basis coordinates) es ≡ map (map (map constant)) (map (λ e. map (λ f. coordinates (ring.mul e f)) basis) es)
rows_mapped ring basis coordinates [] = refl
rows_mapped ring basis coordinates (e ∷ es) =
    ap (λ row. row ∷ map (product_row ring basis coordinates) es) (row_mapped basis) ∙ ap (λ rows. map (map constant) (map (λ f. coordinates (ring.mul e f)) basis) ∷ rows) (rows_mapped ring basis coordinates es)
  where
    row_mapped : (fs : List _) → map (λ y. map constant (coordinates (ring.mul e y))) fs ≡ map (map constant) (map (λ f. coordinates (ring.mul e f)) fs)
    row_mapped [] = refl
    row_mapped (f ∷ fs) = ap (λ rows. map constant (coordinates (ring.mul e f)) ∷ rows) (row_mapped fs)
