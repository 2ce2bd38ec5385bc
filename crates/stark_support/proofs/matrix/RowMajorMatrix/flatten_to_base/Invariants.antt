use Rattle.std.proofs.Common.{◌≡◌, take}
use Rattle.std.specs.List.{flat_map}
use Rattle.stark_support.proofs.matrix.RowMajorMatrix.flatten_to_base.Given as goal

abbrev pub invariant-loop-x : goal.invariant-loop-x
invariant-loop-x g l = l.values.items ≡ flat_map g.EF.ExtensionField.coordinates (take l.x-index l.fn.self.values.items)
