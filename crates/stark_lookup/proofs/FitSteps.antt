-- Lookups without a fault read within the AIR, and their keys have one length.
use Rattle.std.proofs.Common.{◌≡◌, ◌∙◌, ℕ, zero, suc, ◌+◌, ◌-◌, ◌<◌, ◌≤◌, ◌&&◌, nat_lt, Bool, true, false, List, [], ◌∷◌, ◌++◌, length, map, replicate, Option, Some, None, if◌then◌else◌, refl, ap, arith}
use Rattle.std.proofs.lemmas.Bool.{lt-ltb}
use Rattle.std.proofs.lemmas.List.{length-append, length-map, length-replicate}
use Rattle.std.specs.List.{AllByRecursion}
use Rattle.std.specs.Option.{option_or}
use Rattle.std.specs.declared.vec.Vec.{Vec}
use Rattle.stark_support.specs.OptionFacts.{both_none}
use Rattle.stark_support.specs.Ring.{RingOps}
use Rattle.stark_air.specs.Layout.{Layout, TreeWithin}
use Rattle.stark_air.specs.Tree.{Tree, constant}
use Rattle.stark_logup.specs.Counts.{all_map}
use Rattle.stark_logup.specs.RowConstraints.{HavePowers}
use Rattle.stark_lookup_air.specs.LookupConstraints.{Interaction, InteractionWithin}
use Rattle.stark_tree_air.specs.FaultFacts.{tree_air_within}
use Rattle.stark_tree_air.specs.Faults.{first_constraint_fault, first_node_fault, tree_air_fault, tree_layout}
use Rattle.stark_tree_air.specs.Nodes.{nodes_trees, tree_at}
use Rattle.stark_tree_air.specs.declared.air.TreeAir.{TreeAir}
use Rattle.stark_tree_air.specs.declared.error.TreeAirError.TheVariants as tree_error
use Rattle.stark_tree_air.specs.declared.node.TreeConstraint.TheVariants.{Base}
use Rattle.stark_lookup_extension.specs.ExtendedSizes.{key_width}
use Rattle.stark_lookup_extension.specs.ExtensionFaults.{all_below, group_fault, interaction_fault, lookup_fault, lookups_fault}
use Rattle.stark_lookup_extension.specs.Interactions.{directed, interaction_over, is_numbered, lookups_over, numbered_groups, tag_of}
use Rattle.stark_lookup_extension.specs.declared.error.ExtensionError.{ExtensionError}
use Rattle.stark_lookup_extension.specs.declared.error.ExtensionError.TheVariants.{LongTuple, NoSuchNode}
use Rattle.stark_lookup_extension.specs.declared.lookup.Direction.{Direction}
use Rattle.stark_lookup_extension.specs.declared.lookup.Direction.TheVariants.{Sent, Received}
use Rattle.stark_lookup_extension.specs.declared.lookup.Lookup.{Lookup}
use Rattle.stark_lookup_extension.specs.declared.lookup.LookupInteraction.{LookupInteraction}
use Rattle.stark_lookup_extension.specs.declared.lookup.LookupList.{LookupList}

-- ---- lists

pub all_joined : {A : Type 0} (P : A → Type 0) (xs ys : List A) → AllByRecursion P xs → AllByRecursion P ys → AllByRecursion P (xs ++ ys)
all_joined P [] ys h k = k
all_joined P (x ∷ xs) ys h k = (h.0, all_joined P xs ys h.1 k)

all_mapped : {A B : Type 0} (f : A → B) (P : A → Type 0) (Q : B → Type 0) → ((x : A) → P x → Q (f x)) → (xs : List A) → AllByRecursion P xs → AllByRecursion Q (map f xs)
all_mapped f P Q gives [] h = tt
all_mapped f P Q gives (x ∷ xs) h = (gives x h.0, all_mapped f P Q gives xs h.1)

-- ---- an interaction without a fault

tested : {A : Type 0} (b : Bool) (x : A) → (if b then None else Some x) ≡ None → b ≡ true
tested true x e = refl
tested false x e = absurd (cc)

first_false : {A : Type 0} (b : Bool) (x : A) (o : Option A) → (if b then Some x else o) ≡ None → b ≡ false
first_false true x o e = absurd (cc)
first_false false x o e = refl

then_none : {A : Type 0} (b : Bool) (x : A) (o : Option A) → (if b then Some x else o) ≡ None → o ≡ None
then_none true x o e = absurd (cc)
then_none false x o e = e

both_true : (a b : Bool) → a && b ≡ true → (a ≡ true) × (b ≡ true)
both_true true b e = (refl, e)
both_true false b e = absurd (cc)

is_below : (b c : Bool) → (if b then c else false) ≡ true → (b ≡ true) × (c ≡ true)
is_below true c e = (refl, e)
is_below false c e = absurd (cc)

less : (i n : ℕ) → nat_lt i n ≡ true → i < n
less i n h = grind arith

not_less : (i n : ℕ) → nat_lt i n ≡ false → n ≤ i
not_less i n h = grind arith

all_less : (count : ℕ) (ps : List ℕ) → all_below count ps ≡ true → AllByRecursion (λ p. p < count) ps
all_less count [] e = tt
all_less count (p ∷ ps) e = let both = is_below (nat_lt p count) (all_below count ps) e in (less p count both.0, all_less count ps both.1)

-- Its tuple is no longer than the width, and it names nodes that are there.
pub record IsSound (nodes width : ℕ) (e : LookupInteraction) : Type 0 where
  pub short : length e.tuple.items ≤ width
  pub tuple : AllByRecursion (λ p. p < nodes) e.tuple.items
  pub times : e.times < nodes

module _ (nodes width : ℕ) where
  sound_interaction : (lookup group k : ℕ) (e : LookupInteraction) → interaction_fault (record { nodes = nodes; width = width }) lookup group k e ≡ None → IsSound nodes width e
  sound_interaction lookup group k e none =
      let long = nat_lt width (length e.tuple.items) in
      let there = nat_lt e.times nodes && all_below nodes e.tuple.items in
      let rest : Option ExtensionError = (if there then None else Some (NoSuchNode lookup group k)) in
      let both = both_true (nat_lt e.times nodes) (all_below nodes e.tuple.items) (tested there (NoSuchNode lookup group k) (then_none long (LongTuple lookup group k) rest none)) in
      record {
        short = not_less width (length e.tuple.items) (first_false long (LongTuple lookup group k) rest none);
        tuple = all_less nodes e.tuple.items both.1;
        times = less e.times nodes both.0;
      }

  sound_group : (lookup group k : ℕ) (es : List LookupInteraction) → group_fault (record { nodes = nodes; width = width }) lookup group k es ≡ None → AllByRecursion (IsSound nodes width) es
  sound_group lookup group k [] none = tt
  sound_group lookup group k (e ∷ es) none =
      let both = both_none (interaction_fault (record { nodes = nodes; width = width }) lookup group k e) (group_fault (record { nodes = nodes; width = width }) lookup group (k + 1) es) none in
      (sound_interaction lookup group k e both.0, sound_group lookup group (k + 1) es both.1)

  sound_lookup : {A : Type 0} (lookup k : ℕ) (gs : List (Vec LookupInteraction A)) → lookup_fault (record { nodes = nodes; width = width }) lookup k gs ≡ None → AllByRecursion (λ g. AllByRecursion (IsSound nodes width) g.items) gs
  sound_lookup lookup k [] none = tt
  sound_lookup lookup k (g ∷ gs) none =
      let both = both_none (group_fault (record { nodes = nodes; width = width }) lookup k 0 g.items) (lookup_fault (record { nodes = nodes; width = width }) lookup (k + 1) gs) none in
      (sound_group lookup k 0 g.items both.0, sound_lookup lookup (k + 1) gs both.1)

  pub sound_lookups : (k : ℕ) (xs : List Lookup) → lookups_fault (record { nodes = nodes; width = width }) k xs ≡ None → AllByRecursion (λ x. AllByRecursion (λ g. AllByRecursion (IsSound nodes width) g.items) x.groups.items) xs
  sound_lookups k [] none = tt
  sound_lookups k (x ∷ xs) none =
      let both = both_none (lookup_fault (record { nodes = nodes; width = width }) k 0 x.groups.items) (lookups_fault (record { nodes = nodes; width = width }) (k + 1) xs) none in
      (sound_lookup k 0 x.groups.items both.0, sound_lookups (k + 1) xs both.1)

-- ---- its key and multiplicity, as trees

tag_length : {F : Type 0} (numbered : Bool) (number : F) (width : ℕ) → length (tag_of numbered number) + width ≡ key_width numbered width
tag_length true number width = omega arith
tag_length false number width = omega arith

tag_within : {F : Type 0} (l : Layout) (numbered : Bool) (number : F) → AllByRecursion (TreeWithin l) (tag_of numbered number)
tag_within l true number = (tt, tt)
tag_within l false number = tt

fillers_within : {F : Type 0} (l : Layout) (k : F) (n : ℕ) → AllByRecursion (TreeWithin l) (replicate n (constant k))
fillers_within l k zero = tt
fillers_within l k (suc n) = (tt, fillers_within l k n)

directed_within : {F : Type 0} (l : Layout) (d : Direction) (t : Tree F) → TreeWithin l t → TreeWithin l (directed d t)
directed_within l Sent t h = h
directed_within l Received t h = h

filled : (tag tuple width filler key : ℕ) → tuple ≤ width → filler ≡ width - tuple → tag + width ≡ key → (tag + tuple) + filler ≡ key
filled tag tuple width filler key short is whole = omega arith

-- It reads within the layout, and its key has this length.
pub record Fits {F : Type 0} (l : Layout) (width : ℕ) (e : Interaction F) : Type 0 where
  pub within : InteractionWithin l e
  pub length_is : length e.key ≡ width

module _ {F : Type 0} (ring : RingOps F) (l : Layout) (ts : List (Tree F)) (nodes width : ℕ) (there : (p : ℕ) → p < nodes → TreeWithin l (tree_at ts p)) (numbered : Bool) where
  fitting_interaction : (number : F) (e : LookupInteraction) → IsSound nodes width e → Fits l (key_width numbered width) (interaction_over ring ts width (tag_of numbered number) e)
  fitting_interaction number e sound =
      let tag = tag_of numbered number in
      let tuple = map (tree_at ts) e.tuple.items in
      let fillers = replicate (width - length e.tuple.items) (constant ring.zero) in
      record {
        within = (
          all_joined (TreeWithin l) (tag ++ tuple) fillers (all_joined (TreeWithin l) tag tuple (tag_within l numbered number) (all_mapped (tree_at ts) (λ p. p < nodes) (TreeWithin l) there e.tuple.items sound.tuple))
              (fillers_within l ring.zero (width - length e.tuple.items)),
          directed_within l e.direction (tree_at ts e.times) (there e.times sound.times),
        );
        length_is =
            length-append (tag ++ tuple) fillers ∙ ap (λ n. n + length fillers) (length-append tag tuple ∙ ap (λ n. length tag + n) (length-map e.tuple.items (tree_at ts)))
            ∙ filled (length tag) (length e.tuple.items) width (length fillers) (key_width numbered width) sound.short (length-replicate (width - length e.tuple.items) (constant ring.zero))
            (tag_length numbered number width);
      }

  pub fitting_groups : (number : F) (xs : List Lookup) → AllByRecursion (λ x. AllByRecursion (λ g. AllByRecursion (IsSound nodes width) g.items) x.groups.items) xs
      → AllByRecursion (λ g. AllByRecursion (Fits l (key_width numbered width)) g) (numbered_groups ring ts width numbered number xs)
  fitting_groups number [] sound = tt
  fitting_groups number (x ∷ xs) sound =
      let over = interaction_over ring ts width (tag_of numbered number) in
      all_joined (λ g. AllByRecursion (Fits l (key_width numbered width)) g) (map (λ g. map over g.items) x.groups.items) (numbered_groups ring ts width numbered (ring.add number ring.one) xs)
      (all_mapped (λ g. map over g.items) (λ g. AllByRecursion (IsSound nodes width) g.items) (λ g. AllByRecursion (Fits l (key_width numbered width)) g)
      (λ g h. all_mapped over (IsSound nodes width) (Fits l (key_width numbered width)) (fitting_interaction number) g.items h) x.groups.items sound.0)
      (fitting_groups (ring.add number ring.one) xs sound.1)

-- ---- those of an AIR without a fault

one_constraint : (count p : ℕ) → p < count → first_constraint_fault count 0 (Base p ∷ []) ≡ None
one_constraint count p below = ap (λ b. option_or (if b then None else Some (tree_error.NoSuchNode 0)) None) (lt-ltb p count below)

module _ {F : Type 0} (base : RingOps F) (dimension : ℕ) (given : LookupList) (air : TreeAir F) (clear : tree_air_fault air.declaration.columns air.list.constants.items air.list.nodes.items air.list.constraints.items ≡ None) where
  abbrev layout : Layout
  layout = tree_layout air.declaration.columns air.list.nodes.items

  node_within : (p : ℕ) → p < length air.list.nodes.items → TreeWithin layout (tree_at (nodes_trees air.list.constants.items air.list.nodes.items) p)
  node_within p below =
      let ks = air.list.constants.items in
      let ns = air.list.nodes.items in
      let both = both_none (first_node_fault layout (length ks) 0 ns) (first_constraint_fault (length ns) 0 air.list.constraints.items) clear in
      let alone : tree_air_fault air.declaration.columns ks ns (Base p ∷ []) ≡ None = ap (λ o. option_or o (first_constraint_fault (length ns) 0 (Base p ∷ []))) both.0 ∙ one_constraint (length ns) p below in
      (tree_air_within air.declaration.columns ks ns (Base p ∷ []) alone).0

  pub fitting : lookups_fault (record { nodes = length air.list.nodes.items; width = given.width }) 0 given.lookups.items ≡ None → AllByRecursion (λ g. AllByRecursion (Fits layout (lookups_over base air given).width) g) (lookups_over base air given).groups
  fitting none =
      fitting_groups base layout (nodes_trees air.list.constants.items air.list.nodes.items) (length air.list.nodes.items) given.width node_within (is_numbered given) base.zero given.lookups.items
      (sound_lookups (length air.list.nodes.items) given.width 0 given.lookups.items none)

short_key : (n w : ℕ) → n ≡ w → n ≤ 1 + (w - 1)
short_key n w e = omega arith

pub fitting_within : {F : Type 0} (l : Layout) (w : ℕ) (gs : List (List (Interaction F))) → AllByRecursion (λ g. AllByRecursion (Fits l w) g) gs → AllByRecursion (λ g. AllByRecursion (λ e. InteractionWithin l e) g) gs
fitting_within l w gs fit = all_map (λ g h. all_map (λ e f. f.within) g h) gs fit

pub fitting_widths : {F : Type 0} (l : Layout) (w : ℕ) (gs : List (List (Interaction F))) → AllByRecursion (λ g. AllByRecursion (Fits l w) g) gs → HavePowers (1 + (w - 1)) gs
fitting_widths l w gs fit = all_map (λ g h. all_map (λ e f. short_key (length e.key) w f.length_is) g h) gs fit
