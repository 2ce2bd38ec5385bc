use Rattle.std.proofs.Common.{◌≡◌, ◌++◌, map, take}
use Rattle.stark_tree_air.specs.declared.node.TreeConstraint.TheVariants.{Base}
use Rattle.stark_lookup_rows.proofs.places.push_interaction.Given as goal

abbrev pub invariant-loop-place : goal.invariant-loop-place
invariant-loop-place l = l.all.items ≡ l.fn.all.items ++ map Base (take l.place-index l.given.tuple.items)
