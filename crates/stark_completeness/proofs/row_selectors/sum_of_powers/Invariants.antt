use Rattle.std.proofs.Common.{◌≡◌}
use Rattle.stark_support.specs.Powers.{power, power_sum}
use Rattle.stark_completeness.proofs.row_selectors.sum_of_powers.Given as goal

abbrev pub invariant-loop-exponent : goal.invariant-loop-exponent
invariant-loop-exponent g l = (l.sum ≡ power_sum g.F.Field.ring l.fn.x l._exponent) × (l.next ≡ power g.F.Field.ring l.fn.x l._exponent)
