-- The places that interactions name, in their order, and the AIR whose constraints stand there.
use Rattle.std.specs.Prelude.{◌≡◌, ℕ, List, [], ◌∷◌, ◌++◌, Option, length, map}
use Rattle.std.specs.List.{flat_map}
use Rattle.std.specs.declared.vec.Vec.{Vec}
use Rattle.stark_tree_air.specs.Traces.{declared_trace}
use Rattle.stark_tree_air.specs.declared.air.TreeAir.{TreeAir}
use Rattle.stark_tree_air.specs.declared.columns.TreeColumns.{TreeColumns}
use Rattle.stark_tree_air.specs.declared.node.TreeConstraint.TheVariants.{Base}
use Rattle.stark_lookup_extension.specs.ExtensionFaults.{lookups_fault}
use Rattle.stark_lookup_extension.specs.declared.error.ExtensionError.{ExtensionError}
use Rattle.stark_lookup_extension.specs.declared.lookup.Lookup.{Lookup}
use Rattle.stark_lookup_extension.specs.declared.lookup.LookupInteraction.{LookupInteraction}
use Rattle.stark_lookup_extension.specs.declared.lookup.LookupList.{LookupList}

-- An interaction names its tuple's elements, and after them its multiplicity.
abbrev pub interaction_places : LookupInteraction → List ℕ
interaction_places e = e.tuple.items ++ e.times ∷ []

abbrev pub group_places : List LookupInteraction → List ℕ
group_places es = flat_map interaction_places es

abbrev pub groups_places : {A : Type 0} → List (Vec LookupInteraction A) → List ℕ
groups_places gs = flat_map (λ g. group_places g.items) gs

abbrev pub lookups_places : List Lookup → List ℕ
lookups_places xs = flat_map (λ x. groups_places x.groups.items) xs

-- What is wrong with lookups over an AIR's nodes.
abbrev pub fault_over : {F : Type 0} → TreeAir F → LookupList → Option ExtensionError
fault_over own given = lookups_fault (record { nodes = length own.list.nodes.items; width = given.width }) 0 given.lookups.items

-- The columns are the same.
pub record HaveColumnsOf {F : Type 0} (own columns : TreeColumns F) : Type 0 where
  pub width : columns.width ≡ own.width
  pub values : columns.num_public_values ≡ own.num_public_values
  pub periodic : map (λ c. c.items) columns.periodic_columns.items ≡ map (λ c. c.items) own.periodic_columns.items
  pub preprocessed : declared_trace columns.preprocessed_trace ≡ declared_trace own.preprocessed_trace

-- The AIR has the same nodes, and its constraints are the places that the interactions name.
pub record IsAirOf {F : Type 0} (own : TreeAir F) (given : LookupList) (air : TreeAir F) : Type 0 where
  pub columns : HaveColumnsOf own.declaration.columns air.declaration.columns
  pub constants : air.list.constants.items ≡ own.list.constants.items
  pub nodes : air.list.nodes.items ≡ own.list.nodes.items
  pub constraints : air.list.constraints.items ≡ map Base (lookups_places given.lookups.items)
