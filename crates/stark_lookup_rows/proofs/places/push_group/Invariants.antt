use Rattle.std.proofs.Common.{◌≡◌, ◌++◌, map, take}
use Rattle.std.specs.List.{flat_map}
use Rattle.stark_tree_air.specs.declared.node.TreeConstraint.TheVariants.{Base}
use Rattle.stark_lookup_rows.specs.Places.{interaction_places}
use Rattle.stark_lookup_rows.proofs.places.push_group.Given as goal

abbrev pub invariant-loop-given : goal.invariant-loop-given
invariant-loop-given l = l.all.items ≡ l.fn.all.items ++ map Base (flat_map interaction_places (take l.given-index l.group))
