-- The groups of lookups, call by call.
use Rattle.std.proofs.Common.{◌≡◌, ◌∙◌, ℕ, zero, suc, ◌+◌, ◌-◌, ◌<◌, ◌≤◌, Bool, true, false, List, [], ◌∷◌, ◌++◌, length, map, drop, replicate, slice_get, Some, refl, sym, ap, subst, arith, append_assoc}
use Rattle.std.proofs.lemmas.List.{append-nil, drop_all}
use Rattle.std.proofs.lemmas.Option.{slice_get-get_or, slice_get_within}
use Rattle.std.specs.List.{AllByRecursion}
use Rattle.std.specs.declared.vec.Vec.{Vec}
use Rattle.stark_support.specs.Faults.{PlaceByPlace}
use Rattle.stark_support.specs.Ring.{RingOps}
use Rattle.stark_air.specs.Layout.{Layout}
use Rattle.stark_air.specs.Tree.{Tree, constant, first_row, negation}
use Rattle.stark_lookup_air.specs.LookupConstraints.{Interaction}
use Rattle.stark_tree_air.specs.Nodes.{tree_at}
use Rattle.stark_tree_air.specs.declared.list.TreeList.{TreeList}
use Rattle.stark_tree_air.specs.declared.node.TreeNode.TheVariants.{Negation}
use Rattle.stark_lookup_extension.specs.declared.lookup.Direction.{Direction}
use Rattle.stark_lookup_extension.specs.declared.lookup.Direction.TheVariants.{Received, Sent}
use Rattle.stark_lookup_extension.specs.Interactions.{directed, groups_over, is_numbered, numbered_groups, tag_of}
use Rattle.stark_lookup_extension.specs.Written.{KeepPlaces, Spelling, Stand, StandsAt, Written, WritesKnown, WritesOne, WritesTwo}
use Rattle.stark_lookup_extension.specs.WrittenEquations.{EntryStands, GroupStands, GroupsStand}
use Rattle.stark_lookup_extension.specs.WrittenGroups.{GroupNodes, InteractionNodes, KeyTrees, LookupNodes, NamesNodes, PartsStand, WritesEntry, WritesGroup, WritesLookup, WritesParts, group_of, interaction_of, key_places, lookup_of}
use Rattle.stark_lookup_extension.specs.declared.equations.WrittenEntry.{WrittenEntry}
use Rattle.stark_lookup_extension.specs.declared.groups.KeyParts.{KeyParts}
use Rattle.stark_lookup_extension.specs.declared.lookup.Lookup.{Lookup}
use Rattle.stark_lookup_extension.specs.declared.lookup.LookupInteraction.{LookupInteraction}
use Rattle.stark_lookup_extension.specs.declared.lookup.LookupList.{LookupList}
use Rattle.stark_lookup_extension.proofs.EquationSteps.{entry_kept, group_kept, groups_kept}
use Rattle.stark_lookup_extension.proofs.Loops.{Begun, begun_all, begun_none, begun_one, from_there}
use Rattle.stark_lookup_extension.proofs.Steps.{Keep, after_it, all_after, node_written, none_yet, one_after, place_kept, so_made, stand_kept, tree_there, unchanged}

pub parts_kept : {F : Type 0} (ring : RingOps F) (nodes : ℕ) → Keep {F = F} (PartsStand ring nodes)
parts_kept ring nodes ts us k parts x h = record {
  kept = λ p t e. k p t (h.kept p t e);
  number = h.number;
  width = h.width;
  tag = stand_kept ts us k parts.tag.items x.tag h.tag;
  zero = place_kept ts us k parts.zero (constant ring.zero) h.zero;
}

pub nodes_kept : {F : Type 0} (nodes : ℕ) → Keep {F = F} (InteractionNodes nodes)
nodes_kept nodes ts us k given e h = record { same = h.same; names = h.names }

-- ---- one interaction

own_there : {F : Type 0} (own ts : List (Tree F)) (nodes p : ℕ) → KeepPlaces own ts → length own ≡ nodes → p < nodes → StandsAt ts p (tree_at own p)
own_there own ts nodes p kept number below = kept p (tree_at own p) (slice_get-get_or own p first_row (subst (λ n. p < n) (sym number) below))

all_there : {F : Type 0} (own ts : List (Tree F)) (nodes : ℕ) (ps : List ℕ) → KeepPlaces own ts → length own ≡ nodes → AllByRecursion (λ p. p < nodes) ps → Stand ts ps (map (tree_at own) ps)
unfolding PlaceByPlace
all_there own ts nodes [] kept number names = tt
all_there own ts nodes (p ∷ ps) kept number names = (own_there own ts nodes p kept number names.0, all_there own ts nodes ps kept number names.1)

filled_up : {F : Type 0} (ts : List (Tree F)) (p : ℕ) (t : Tree F) (n : ℕ) → StandsAt ts p t → Stand ts (replicate n p) (replicate n t)
unfolding PlaceByPlace
filled_up ts p t zero h = tt
filled_up ts p t (suc n) h = (h, filled_up ts p t n h)

module _ {F : Type 0} (ring : RingOps F) (nodes : ℕ) where
  key_there : (ts : List (Tree F)) (parts : KeyParts) (k : KeyTrees F) (e : LookupInteraction) → PartsStand ring nodes ts parts k → NamesNodes nodes e
      → Stand ts (key_places parts e.tuple.items) (interaction_of ring k e).key
  key_there ts parts k e r names =
      let tuple = e.tuple.items in
      let filling = filled_up ts parts.zero (constant ring.zero) (parts.width - length tuple) r.zero in
      let filled = subst (λ w. Stand ts (replicate (parts.width - length tuple) parts.zero) (replicate (w - length tuple) (constant ring.zero))) r.width filling in
      all_after (StandsAt ts) (parts.tag.items ++ tuple) (replicate (parts.width - length tuple) parts.zero) (k.tag ++ map (tree_at k.own) tuple) (replicate (k.width - length tuple) (constant ring.zero))
      (all_after (StandsAt ts) parts.tag.items tuple k.tag (map (tree_at k.own) tuple) r.tag (all_there k.own ts nodes tuple r.kept r.number names.tuple)) filled

  pub entry_steps : (a b : TreeList F) (parts : KeyParts) (given : LookupInteraction) (entry : WrittenEntry) → entry.key.items ≡ key_places parts given.tuple.items
      → WritesOne StandsAt StandsAt (directed given.direction) a given.times entry.multiplicity b → WritesTwo (PartsStand ring nodes) (InteractionNodes nodes) EntryStands (interaction_of ring) a parts given entry b
  entry_steps a b parts given entry is_key direct l ts k e h r s =
      let w = direct l ts (tree_at k.own given.times) h (own_there k.own ts nodes given.times r.kept r.number s.names.times) in
      let keys = stand_kept ts w.trees w.kept (key_places parts given.tuple.items) (interaction_of ring k given).key (key_there ts parts k given r s.names) in
      so_made a b w (subst (λ x. EntryStands w.trees entry (interaction_of ring k x)) (sym s.same) (record {
        key = subst (λ ps. Stand w.trees ps (interaction_of ring k given).key) (sym is_key) keys;
        multiplicity = w.made;
      }))

  -- ---- the interactions of a group

  abbrev pub GroupSoFar : TreeList F → KeyParts → List LookupInteraction → ℕ → List WrittenEntry → TreeList F → Type 0
  GroupSoFar old parts given i all new = Begun (PartsStand ring nodes) (InteractionNodes nodes) EntryStands (interaction_of ring) old parts given i all new

  pub group_none : (list : TreeList F) (parts : KeyParts) (given : List LookupInteraction) (all : List WrittenEntry) → all ≡ [] → GroupSoFar list parts given 0 all list
  group_none list parts given all none = begun_none (PartsStand ring nodes) (InteractionNodes nodes) EntryStands (interaction_of ring) list parts given all none

  pub group_one : (a b c : TreeList F) (parts : KeyParts) (given : List LookupInteraction) (i : ℕ) (e : LookupInteraction) (entry : WrittenEntry) (all more : List WrittenEntry) → slice_get given i ≡ Some e → more ≡ all ++ entry ∷ []
      → GroupSoFar a parts given i all b → WritesEntry ring b parts e entry c → GroupSoFar a parts given (i + 1) more c
  group_one a b c parts given i e entry all more is pushed so_far one =
      begun_one (PartsStand ring nodes) (InteractionNodes nodes) EntryStands (interaction_of ring) (parts_kept ring nodes) (nodes_kept nodes) entry_kept a b c parts given i e entry all more is pushed so_far (one nodes)

  each_named : (ts : List (Tree F)) (es : List LookupInteraction) → AllByRecursion (NamesNodes nodes) es → PlaceByPlace (InteractionNodes nodes ts) es es
  unfolding PlaceByPlace
  each_named ts [] names = tt
  each_named ts (e ∷ es) names = (record { same = refl; names = names.0 }, each_named ts es names.1)

  pub group_all : (a b : TreeList F) (parts : KeyParts) (given : List LookupInteraction) (i : ℕ) (all : List WrittenEntry) → length given ≤ i → GroupSoFar a parts given i all b
      → WritesTwo (PartsStand ring nodes) (GroupNodes nodes) GroupStands (group_of ring) a parts given all b
  group_all a b parts given i all ended so_far l ts k es h r s =
      let w = begun_all (PartsStand ring nodes) (InteractionNodes nodes) EntryStands (interaction_of ring) a b parts given i all ended so_far l ts k given h r (each_named ts given s.names) in
      so_made a b w (subst (λ x. GroupStands w.trees all (group_of ring k x)) (sym s.same) w.made)

  -- ---- the groups of a lookup

  pub record OneGroup {A : Type 0} (ts : List (Tree F)) (given g : Vec LookupInteraction A) : Type 0 where
    pub same : g ≡ given
    pub names : AllByRecursion (NamesNodes nodes) given.items

  abbrev Groups : {A : Type 0} → List (Tree F) → Vec WrittenEntry A → List (Interaction F) → Type 0
  Groups ts group es = GroupStands ts group.items es

  one_kept : {A : Type 0} → Keep {F = F} (OneGroup {A = A})
  one_kept ts us k given g h = record { same = h.same; names = h.names }

  all_kept : {B : Type 0} → Keep {F = F} (Groups {A = B})
  all_kept ts us k group es h = group_kept ts us k group.items es h

  each_group : {A : Type 0} (ts : List (Tree F)) (gs : List (Vec LookupInteraction A)) → AllByRecursion (λ g. AllByRecursion (NamesNodes nodes) g.items) gs → PlaceByPlace (OneGroup ts) gs gs
  unfolding PlaceByPlace
  each_group ts [] names = tt
  each_group ts (g ∷ gs) names = (record { same = refl; names = names.0 }, each_group ts gs names.1)

  module _ {A B : Type 0} where
    abbrev pub LookupSoFar : TreeList F → KeyParts → List (Vec LookupInteraction A) → ℕ → List (Vec WrittenEntry B) → TreeList F → Type 0
    LookupSoFar old parts given i all new = Begun (PartsStand ring nodes) (OneGroup {A = A}) (Groups {A = B}) (λ k g. group_of ring k g.items) old parts given i all new

    pub lookup_none : (list : TreeList F) (parts : KeyParts) (given : List (Vec LookupInteraction A)) (all : List (Vec WrittenEntry B)) → all ≡ [] → LookupSoFar list parts given 0 all list
    lookup_none list parts given all none = begun_none (PartsStand ring nodes) (OneGroup {A = A}) (Groups {A = B}) (λ k g. group_of ring k g.items) list parts given all none

    pub lookup_one : (a b c : TreeList F) (parts : KeyParts) (given : List (Vec LookupInteraction A)) (i : ℕ) (g : Vec LookupInteraction A) (entries : Vec WrittenEntry B) (all more : List (Vec WrittenEntry B)) → slice_get given i ≡ Some g
        → more ≡ all ++ entries ∷ [] → LookupSoFar a parts given i all b → WritesGroup ring b parts g.items entries.items c → LookupSoFar a parts given (i + 1) more c
    lookup_one a b c parts given i g entries all more is pushed so_far one =
        begun_one (PartsStand ring nodes) (OneGroup {A = A}) (Groups {A = B}) (λ k x. group_of ring k x.items) (parts_kept ring nodes) one_kept all_kept a b c parts given i g entries all more is pushed so_far
        (λ l ts k x h r s.
        let w = one nodes l ts k g.items h r (record { same = refl; names = s.names }) in
        so_made b c w (subst (λ y. GroupStands w.trees entries.items (group_of ring k y.items)) (sym s.same) w.made))

    pub lookup_all : (a b : TreeList F) (parts : KeyParts) (given : List (Vec LookupInteraction A)) (i : ℕ) (all : List (Vec WrittenEntry B)) → length given ≤ i → LookupSoFar a parts given i all b
        → WritesTwo (PartsStand ring nodes) (LookupNodes nodes) GroupsStand (lookup_of ring) a parts given all b
    lookup_all a b parts given i all ended so_far l ts k gs h r s =
        let w = begun_all (PartsStand ring nodes) (OneGroup {A = A}) (Groups {A = B}) (λ k g. group_of ring k g.items) a b parts given i all ended so_far l ts k given h r (each_group ts given s.names) in
        so_made a b w (subst (λ x. GroupsStand w.trees all (lookup_of ring k x)) (sym s.same) w.made)

-- ---- one lookup after the other

pub parts_steps : {F : Type 0} (ring : RingOps F) (a b c : TreeList F) (tag : List (Tree F)) (parts : KeyParts) (z : F) → z ≡ ring.zero
    → ((l : Layout) (ts : List (Tree F)) → Spelling l a ts → Written l ts a b (λ us. StandsAt us parts.zero (constant z))) → WritesKnown Stand tag b parts.tag.items c → WritesParts ring tag a parts c
parts_steps ring a b c tag parts z is zero_call tag_call l ts h =
    let w = zero_call l ts h in
    let v = tag_call l w.trees w.spelling in
    after_it a b c w (so_made b c v (v.made, subst (λ y. StandsAt v.trees parts.zero (constant y)) is (v.kept parts.zero (constant z) w.made)))

pub sent : {F : Type 0} (list : TreeList F) (p : ℕ) (direction : Direction) → direction ≡ Sent → WritesOne StandsAt StandsAt (directed direction) list p p list
sent list p direction is l ts t h a = unchanged list h (subst (λ d. StandsAt ts p (directed d t)) (sym is) a)

pub received : {F : Type 0} (list new : TreeList F) (x p : ℕ) (direction : Direction) → direction ≡ Received → new.constants.items ≡ list.constants.items → new.constraints.items ≡ list.constraints.items → p ≡ length list.nodes.items
    → new.nodes.items ≡ list.nodes.items ++ Negation x ∷ [] → WritesOne StandsAt StandsAt (directed direction) list x p new
received list new x p direction is constants constraints at pushed l ts t h a =
    let w = node_written l ts list new p h (Negation x) (negation t) (slice_get_within ts x t a) (ap negation (tree_there ts x t a)) constants constraints pushed at in
    so_made list new w (subst (λ d. StandsAt w.trees p (directed d t)) (sym is) w.made)

pub no_tag : {F : Type 0} (list : TreeList F) (number : F) (tag : List ℕ) (numbered : Bool) → numbered ≡ false → tag ≡ [] → WritesKnown Stand (tag_of numbered number) list tag list
no_tag list number tag numbered is none l ts h =
    unchanged list h (subst (λ b. Stand ts tag (tag_of b number)) (sym is) (subst (λ ps. Stand ts ps []) (sym none) (none_yet (StandsAt ts))))

pub one_tag : {F : Type 0} (list new : TreeList F) (number : F) (tag : List ℕ) (numbered : Bool) (p : ℕ) → numbered ≡ true → tag ≡ p ∷ [] → ((l : Layout) (ts : List (Tree F)) → Spelling l list ts → Written l ts list new (λ us. StandsAt us p (constant number)))
    → WritesKnown Stand (tag_of numbered number) list tag new
one_tag list new number tag numbered p is one written l ts h =
    let w = written l ts h in
    so_made list new w (subst (λ b. Stand w.trees tag (tag_of b number)) (sym is) (subst (λ ps. Stand w.trees ps (constant number ∷ [])) (sym one) (one_after (StandsAt w.trees) [] [] p (constant number) (none_yet (StandsAt w.trees)) w.made)))

all_at : {A : Type 0} (P : A → Type 0) (xs : List A) (i : ℕ) (x : A) → AllByRecursion P xs → slice_get xs i ≡ Some x → P x
all_at P [] i x all e = absurd (cc)
all_at P (y ∷ xs) zero x all e = let same : y ≡ x = cc in subst P same all.0
all_at P (y ∷ xs) (suc i) x all e = all_at P xs i x all.1 e

-- Each interaction names nodes below that many.
abbrev pub AllName : ℕ → List Lookup → Type 0
AllName nodes xs = AllByRecursion (λ x. AllByRecursion (λ g. AllByRecursion (NamesNodes nodes) g.items) x.groups.items) xs

module _ {F : Type 0} (ring : RingOps F) (given : LookupList) {B : Type 0} where
  pub record GroupsBegun (own : List (Tree F)) (ts : List (Tree F)) (i : ℕ) (number : F) (all : List (Vec WrittenEntry B)) : Type 0 where
    pub done : List (List (Interaction F))
    pub made : GroupsStand ts all done
    pub split : done ++ numbered_groups ring own given.width (is_numbered given) number (drop i given.lookups.items) ≡ groups_over ring own given
    pub kept : KeepPlaces own ts

  abbrev pub GroupsSoFar : TreeList F → ℕ → F → List (Vec WrittenEntry B) → TreeList F → Type 0
  GroupsSoFar old i number all new = (l : Layout) (ts own : List (Tree F)) → Spelling l old ts → KeepPlaces own ts → AllName (length own) given.lookups.items → Written l ts old new (λ us. GroupsBegun own us i number all)

  pub groups_none : (list : TreeList F) (number : F) (all : List (Vec WrittenEntry B)) → number ≡ ring.zero → all ≡ [] → GroupsSoFar list 0 number all list
  groups_none list number all is none l ts own h kept names = unchanged list h (record {
    done = [];
    made = subst (λ qs. GroupsStand ts qs []) (sym none) (none_yet (λ group es. GroupStands ts group.items es));
    split = ap (λ n. numbered_groups ring own given.width (is_numbered given) n given.lookups.items) is;
    kept = kept;
  })

  pub groups_one : (a b c d : TreeList F) (i : ℕ) (x : Lookup) (number next : F) (parts : KeyParts) (all some more : List (Vec WrittenEntry B)) → slice_get given.lookups.items i ≡ Some x → next ≡ ring.add number ring.one → parts.width ≡ given.width
      → more ≡ all ++ some → GroupsSoFar a i number all b → WritesParts ring (tag_of (is_numbered given) number) b parts c → WritesLookup ring c parts x.groups.items some d → GroupsSoFar a (i + 1) next more d
  groups_one a b c d i x number next parts all some more is counted wide joined so_far begin one l ts own h kept names =
      let w = so_far l ts own h kept names in
      let begun = w.made in
      let v = begin l w.trees w.spelling in
      let tag = tag_of (is_numbered given) number in
      let k : KeyTrees F = record { own = own; width = given.width; tag = tag } in
      let k2 : KeepPlaces own v.trees = λ p t e. v.kept p t (begun.kept p t e) in
      let z = one (length own) l v.trees k x.groups.items v.spelling (record { kept = k2; number = refl; width = wide; tag = v.made.0; zero = v.made.1 }) (record { same = refl; names = all_at _ given.lookups.items i x names is }) in
      let k3 : KeepPlaces w.trees z.trees = λ p t e. z.kept p t (v.kept p t e) in
      let gs = lookup_of ring k x.groups.items in
      let rest = λ (n : F) (xs : List Lookup). numbered_groups ring own given.width (is_numbered given) n xs in
      after_it a b d w (after_it b c d v (so_made c d z (record {
        done = begun.done ++ gs;
        made = subst (λ qs. GroupsStand z.trees qs (begun.done ++ gs)) (sym joined)
            (all_after (λ group es. GroupStands z.trees group.items es) all some begun.done gs (groups_kept w.trees z.trees k3 all begun.done begun.made) z.made);
        split =
            append_assoc begun.done gs (rest next (drop (i + 1) given.lookups.items)) ∙ ap (λ n. begun.done ++ (gs ++ rest n (drop (i + 1) given.lookups.items))) counted
            ∙ ap (λ xs. begun.done ++ rest number xs) (sym (from_there given.lookups.items i x is)) ∙ begun.split;
        kept = λ p t e. z.kept p t (k2 p t e);
      })))

  pub groups_all : (a b : TreeList F) (i : ℕ) (number : F) (all : List (Vec WrittenEntry B)) → length given.lookups.items ≤ i → GroupsSoFar a i number all b
      → (l : Layout) (ts own : List (Tree F)) → Spelling l a ts → KeepPlaces own ts → AllName (length own) given.lookups.items → Written l ts a b (λ us. GroupsStand us all (groups_over ring own given))
  groups_all a b i number all ended so_far l ts own h kept names =
      let w = so_far l ts own h kept names in
      let begun = w.made in
      let same : begun.done ≡ groups_over ring own given =
      sym (append-nil begun.done) ∙ ap (λ xs. begun.done ++ numbered_groups ring own given.width (is_numbered given) number xs) (sym (drop_all i given.lookups.items ended)) ∙ begun.split in
      so_made a b w (subst (λ gs. GroupsStand w.trees all gs) same begun.made)
