use Rattle.std.proofs.Common.{◌≡◌, ◌≤◌, Some, length, drop}
use Rattle.std.specs.List.{slice_get}
use Rattle.stark_support.specs.Extension.{basis_sum}
use Rattle.stark_columns.proofs.powers.coordinate_of_sum.Given as goal

abbrev pub invariant-loop-index : goal.invariant-loop-index
invariant-loop-index g l =
    (l.index ≤ length l.coefficients)
    × (slice_get (g.EF.ExtensionField.coordinates (basis_sum g.EF.Field.ring g.EF.ExtensionField.embed (drop l.index l.coefficients) (drop l.index l.powers))) l.place ≡ Some l.sum)

abbrev pub decreases-loop-index : goal.decreases-loop-index
decreases-loop-index g l = l.index
