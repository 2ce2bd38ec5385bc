use Rattle.std.proofs.Common.{◌≤◌, length}
use Rattle.stark_logup.proofs.Steps.{Above, Below}
use Rattle.stark_logup.proofs.columns.group_fraction.Given as goal

abbrev pub invariant-loop-index : goal.invariant-loop-index
invariant-loop-index g l =
    (l.index ≤ length l.group) × (Below g.F.Field.ring l.gamma l.group l.index l.below × Above g.F.Field.ring l.gamma l.group l.index l.above)

abbrev pub decreases-loop-index : goal.decreases-loop-index
decreases-loop-index g l = l.index
