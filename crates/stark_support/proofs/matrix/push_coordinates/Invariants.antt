use Rattle.std.proofs.Common.{◌≡◌, ◌++◌, take}
use Rattle.stark_support.proofs.matrix.push_coordinates.Given as goal

abbrev pub invariant-loop-index : goal.invariant-loop-index
invariant-loop-index g l = l.values.items ≡ l.initial.values.items ++ take l.index (g.EF.ExtensionField.coordinates l.x)
