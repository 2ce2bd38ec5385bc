use Rattle.std.proofs.Common.{◌≡◌, ◌≤◌, ◌+◌, ◌-◌, length}
use Rattle.stark_fields.proofs.WeightedSums.{sum_from}
use Rattle.stark_fields.proofs.lanes.arithmetic.weighted_sum.Given as goal

abbrev pub invariant-loop-index : goal.invariant-loop-index
invariant-loop-index g l = (l.index ≤ length l.values) × (l.sum ≡ sum_from l.values l.weights l.index)

abbrev pub decreases-loop-index : goal.decreases-loop-index
decreases-loop-index g l = l.index + 1 - 5

abbrev pub invariant-loop-index-2 : goal.invariant-loop-index-2
invariant-loop-index-2 g l = (l.index ≤ length l.values) × (l.sum ≡ sum_from l.values l.weights l.index)

abbrev pub decreases-loop-index-2 : goal.decreases-loop-index-2
decreases-loop-index-2 g l = l.index
