use Rattle.std.proofs.Common.{◌≡◌, take}
use Rattle.stark_lookup_extension.proofs.leaves.coordinates.Given as goal

abbrev pub invariant-loop-index : goal.invariant-loop-index
invariant-loop-index g l = l.all.items ≡ take l.index (g.EF.ExtensionField.coordinates l.x)
