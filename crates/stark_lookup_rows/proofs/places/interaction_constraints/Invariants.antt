use Rattle.std.proofs.Common.{◌≡◌, map, take}
use Rattle.std.specs.List.{flat_map}
use Rattle.stark_tree_air.specs.declared.node.TreeConstraint.TheVariants.{Base}
use Rattle.stark_lookup_rows.specs.Places.{groups_places}
use Rattle.stark_lookup_rows.proofs.places.interaction_constraints.Given as goal

abbrev pub invariant-loop-lookup : goal.invariant-loop-lookup
invariant-loop-lookup l = l.all.items ≡ map Base (flat_map (λ x. groups_places x.groups.items) (take l.lookup-index l.lookups))
