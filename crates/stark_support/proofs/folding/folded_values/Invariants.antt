use Rattle.std.proofs.Common.{◌≡◌, length}
use Rattle.stark_support.specs.Folding.{AreFoldedSoFar}
use Rattle.stark_support.specs.Powers.{power}
use Rattle.stark_support.proofs.folding.folded_values.Given as goal

abbrev pub invariant-loop-index : goal.invariant-loop-index
invariant-loop-index g l =
    (length l.folded.items ≡ l.index)
    × (l.ratio ≡ g.EF.Field.ring.mul l.fn.point (power g.EF.Field.ring l.step l.index))
    × AreFoldedSoFar g.EF.Field.ring (g.EF.ExtensionField.embed l.fn.generator) l.fn.point l.values l.count l.index l.folded.items
