-- The groups of lookups as they are written.
use Rattle.std.specs.Prelude.{◌≡◌, ℕ, ◌-◌, ◌<◌, ◌≤◌, List, [], ◌∷◌, ◌++◌, map, length, replicate}
use Rattle.std.specs.List.{AllByRecursion}
use Rattle.std.specs.declared.vec.Vec.{Vec}
use Rattle.stark_support.specs.Ring.{RingOps}
use Rattle.stark_air.specs.Layout.{Layout}
use Rattle.stark_air.specs.Tree.{Tree, constant}
use Rattle.stark_lookup_air.specs.LookupConstraints.{Interaction}
use Rattle.stark_tree_air.specs.declared.list.TreeList.{TreeList}
use Rattle.stark_lookup_extension.specs.Interactions.{groups_over, interaction_over}
use Rattle.stark_lookup_extension.specs.Written.{KeepPlaces, Spelling, Stand, StandsAt, Written, WritesTwo}
use Rattle.stark_lookup_extension.specs.WrittenEquations.{EntryStands, GroupStands, GroupsStand}
use Rattle.stark_lookup_extension.specs.declared.equations.WrittenEntry.{WrittenEntry}
use Rattle.stark_lookup_extension.specs.declared.groups.KeyParts.{KeyParts}
use Rattle.stark_lookup_extension.specs.declared.lookup.Lookup.{Lookup}
use Rattle.stark_lookup_extension.specs.declared.lookup.LookupInteraction.{LookupInteraction}
use Rattle.stark_lookup_extension.specs.declared.lookup.LookupList.{LookupList}

-- The trees of the AIR's nodes, how many elements a tuple has, and what each key begins with.
pub record KeyTrees (F : Type 0) : Type 0 where
  pub own : List (Tree F)
  pub width : ℕ
  pub tag : List (Tree F)

-- the AIR's nodes are as many as said, and where they were
pub record PartsStand {F : Type 0} (ring : RingOps F) (nodes : ℕ) (ts : List (Tree F)) (parts : KeyParts) (k : KeyTrees F) : Type 0 where
  pub kept : KeepPlaces k.own ts
  pub number : length k.own ≡ nodes
  pub width : parts.width ≡ k.width
  pub tag : Stand ts parts.tag.items k.tag
  pub zero : StandsAt ts parts.zero (constant ring.zero)

abbrev pub key_places : KeyParts → List ℕ → List ℕ
key_places parts tuple = parts.tag.items ++ tuple ++ replicate (parts.width - length tuple) parts.zero

-- Each place is one of that many nodes'.
pub record NamesNodes (nodes : ℕ) (e : LookupInteraction) : Type 0 where
  pub tuple : AllByRecursion (λ p. p < nodes) e.tuple.items
  pub times : e.times < nodes

-- an interaction, which names nodes
pub record InteractionNodes {F : Type 0} (nodes : ℕ) (ts : List (Tree F)) (given e : LookupInteraction) : Type 0 where
  pub same : e ≡ given
  pub names : NamesNodes nodes given

pub record GroupNodes {F : Type 0} (nodes : ℕ) (ts : List (Tree F)) (given es : List LookupInteraction) : Type 0 where
  pub same : es ≡ given
  pub names : AllByRecursion (NamesNodes nodes) given

pub record LookupNodes {F A : Type 0} (nodes : ℕ) (ts : List (Tree F)) (given gs : List (Vec LookupInteraction A)) : Type 0 where
  pub same : gs ≡ given
  pub names : AllByRecursion (λ g. AllByRecursion (NamesNodes nodes) g.items) given

module _ {F : Type 0} (ring : RingOps F) where
  abbrev pub interaction_of : KeyTrees F → LookupInteraction → Interaction F
  interaction_of k e = interaction_over ring k.own k.width k.tag e

  abbrev pub group_of : KeyTrees F → List LookupInteraction → List (Interaction F)
  group_of k es = map (interaction_of k) es

  abbrev pub lookup_of : {A : Type 0} → KeyTrees F → List (Vec LookupInteraction A) → List (List (Interaction F))
  lookup_of k gs = map (λ g. group_of k g.items) gs

  abbrev pub WritesEntry : TreeList F → KeyParts → LookupInteraction → WrittenEntry → TreeList F → Type 0
  WritesEntry old parts given entry new = (nodes : ℕ) → WritesTwo (PartsStand ring nodes) (InteractionNodes nodes) EntryStands interaction_of old parts given entry new

  abbrev pub WritesGroup : TreeList F → KeyParts → List LookupInteraction → List WrittenEntry → TreeList F → Type 0
  WritesGroup old parts given all new = (nodes : ℕ) → WritesTwo (PartsStand ring nodes) (GroupNodes nodes) GroupStands group_of old parts given all new

  abbrev pub WritesLookup : {A B : Type 0} → TreeList F → KeyParts → List (Vec LookupInteraction A) → List (Vec WrittenEntry B) → TreeList F → Type 0
  WritesLookup old parts given all new = (nodes : ℕ) → WritesTwo (PartsStand ring nodes) (LookupNodes nodes) GroupsStand lookup_of old parts given all new

  -- what a key begins with, and zero
  abbrev pub WritesParts : List (Tree F) → TreeList F → KeyParts → TreeList F → Type 0
  WritesParts tag old parts new = (l : Layout) (ts : List (Tree F)) → Spelling l old ts → Written l ts old new (λ us. Stand us parts.tag.items tag × StandsAt us parts.zero (constant ring.zero))

  -- The groups of lookups that name no node past the first trees, which are the AIR's.
  abbrev pub WritesLookups : {A : Type 0} → LookupList → TreeList F → List (Vec WrittenEntry A) → TreeList F → Type 0
  WritesLookups given old all new = (l : Layout) (ts own : List (Tree F)) → Spelling l old ts → KeepPlaces own ts
      → AllByRecursion (λ x. AllByRecursion (λ g. AllByRecursion (NamesNodes (length own)) g.items) x.groups.items) given.lookups.items
      → Written l ts old new (λ us. GroupsStand us all (groups_over ring own given))
