use Rattle.std.proofs.Common.{◌≡◌, ◌++◌, map, take}
use Rattle.std.specs.List.{flat_map}
use Rattle.stark_tree_air.specs.declared.node.TreeConstraint.TheVariants.{Base}
use Rattle.stark_lookup_rows.specs.Places.{group_places}
use Rattle.stark_lookup_rows.proofs.places.push_groups.Given as goal

abbrev pub invariant-loop-group : goal.invariant-loop-group
invariant-loop-group l = l.all.items ≡ l.fn.all.items ++ map Base (flat_map (λ g. group_places g.items) (take l.group-index l.groups))
