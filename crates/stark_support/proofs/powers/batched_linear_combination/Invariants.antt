use Rattle.std.proofs.Common.{◌≤◌, List, length, drop}
use Rattle.stark_support.specs.Combination.{EachStands, linear_combination}
use Rattle.stark_support.proofs.powers.batched_linear_combination.Given as goal

abbrev pub invariant-loop-index : goal.invariant-loop-index
invariant-loop-index g l =
    (l.index ≤ length l.values)
    × ((vs : List g.row.A.Denot) → EachStands g.A.Algebra.stands vs (drop l.index l.values) → g.A.Algebra.stands (linear_combination g.A.Algebra.operations g.F.Field.ZERO vs (drop l.index l.coefficients)) l.sum)

abbrev pub decreases-loop-index : goal.decreases-loop-index
decreases-loop-index g l = l.index
