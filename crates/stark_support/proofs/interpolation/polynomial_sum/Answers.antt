use Rattle.std.proofs.Common.{arith}
use Rattle.stark_support.proofs.Sums.{sum_complete}
use Rattle.stark_support.proofs.interpolation.polynomial_sum.Goals as goal

pub returns : goal.returns
returns g c = sum_complete g.F.Field.ring c.args.p.now c.args.q.now c.loop-index.sum.items _ _ c.min-shared.result c.loop-index.index c.min-shared.ensures (omega arith) c.loop-index.invariant
    c.in_ok-extend_from_slice.ensures.items c.in_ok-extend_from_slice-2.ensures.items
