use Rattle.std.proofs.Common.{◌≡◌, length}
use Rattle.stark_support.specs.Claims.{point_view}
use Rattle.stark_support.proofs.Loops.{Left}
use Rattle.stark_clear.proofs.clear.check.points_have_count.Given as goal

abbrev pub invariant-loop-point : goal.invariant-loop-point
invariant-loop-point g l = Left point_view (λ p. length p.1 ≡ l.count) l.points l.point-index
