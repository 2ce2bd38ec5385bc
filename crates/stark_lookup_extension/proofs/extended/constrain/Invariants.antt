use Rattle.std.proofs.Common.{◌≡◌, ◌++◌, map, take}
use Rattle.stark_tree_air.specs.declared.node.TreeConstraint.TheVariants.{Base}
use Rattle.stark_lookup_extension.proofs.extended.constrain.Given as goal

abbrev pub invariant-loop-place : goal.invariant-loop-place
invariant-loop-place g l = (l.list.constraints.items ≡ l.fn.list.constraints.items ++ map Base (take l.place-index l.places)) × (l.list.constants.items ≡ l.fn.list.constants.items) × (l.list.nodes.items ≡ l.fn.list.nodes.items)
