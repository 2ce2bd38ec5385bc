use Rattle.std.proofs.Common.{◌≡◌, ◌≤◌, length, drop}
use Rattle.stark_logup.specs.Fractions.{list_sum}
use Rattle.stark_lookup_trace.proofs.helpers.total.Given as goal

abbrev pub invariant-loop-index : goal.invariant-loop-index
invariant-loop-index g l = (l.index ≤ length l.values) × (l.sum ≡ list_sum g.K.Field.ring (drop l.index l.values))

abbrev pub decreases-loop-index : goal.decreases-loop-index
decreases-loop-index g l = l.index
