-- The interactions of lookups, as trees over an AIR.
use Rattle.std.specs.Prelude.{ℕ, ◌-◌, ◌+◌, nat_lt, Bool, true, false, List, [], ◌∷◌, ◌++◌, map, length, replicate}
use Rattle.stark_support.specs.Ring.{RingOps}
use Rattle.stark_air.specs.Tree.{Tree, constant, negation}
use Rattle.stark_lookup_air.specs.LookupConstraints.{Interaction, Lookups}
use Rattle.stark_tree_air.specs.Nodes.{nodes_trees, tree_at}
use Rattle.stark_tree_air.specs.declared.air.TreeAir.{TreeAir}
use Rattle.stark_lookup_extension.specs.ExtendedSizes.{key_width}
use Rattle.stark_lookup_extension.specs.declared.lookup.Direction.{Direction}
use Rattle.stark_lookup_extension.specs.declared.lookup.Direction.TheVariants.{Sent, Received}
use Rattle.stark_lookup_extension.specs.declared.lookup.Lookup.{Lookup}
use Rattle.stark_lookup_extension.specs.declared.lookup.LookupInteraction.{LookupInteraction}
use Rattle.stark_lookup_extension.specs.declared.lookup.LookupList.{LookupList}

-- What is received is counted down.
abbrev pub directed : {F : Type 0} → Direction → Tree F → Tree F
directed Sent t = t
directed Received t = negation t

-- The number of a lookup, where there are several.
abbrev pub tag_of : {F : Type 0} → Bool → F → List (Tree F)
tag_of true number = constant number ∷ []
tag_of false number = []

module _ {F : Type 0} (ring : RingOps F) (ts : List (Tree F)) (width : ℕ) where
  -- The tuple with that number, filled up with zeros; the trees are those of the AIR's nodes.
  abbrev pub interaction_over : List (Tree F) → LookupInteraction → Interaction F
  interaction_over tag e = record {
    key = tag ++ map (tree_at ts) e.tuple.items ++ replicate (width - length e.tuple.items) (constant ring.zero);
    multiplicity = directed e.direction (tree_at ts e.times);
  }

  -- the groups of lookups, which are numbered from here on
  abbrev pub numbered_groups : Bool → F → List Lookup → List (List (Interaction F))
  numbered_groups numbered number [] = []
  numbered_groups numbered number (x ∷ xs) =
      map (λ g. map (interaction_over (tag_of numbered number)) g.items) x.groups.items ++ numbered_groups numbered (ring.add number ring.one) xs

-- there are two lookups or more
abbrev pub is_numbered : LookupList → Bool
is_numbered given = nat_lt 1 (length given.lookups.items)

abbrev pub groups_over : {F : Type 0} → RingOps F → List (Tree F) → LookupList → List (List (Interaction F))
groups_over ring ts given = numbered_groups ring ts given.width (is_numbered given) ring.zero given.lookups.items

-- The lookups of an AIR, whose nodes their interactions name.
abbrev pub lookups_over : {F : Type 0} → RingOps F → TreeAir F → LookupList → Lookups F
lookups_over ring air given = record {
  groups = groups_over ring (nodes_trees air.list.constants.items air.list.nodes.items) given;
  main = air.declaration.columns.width;
  public_values = air.declaration.columns.num_public_values;
  width = key_width (is_numbered given) given.width;
}
