use Rattle.std.proofs.Common.{◌≡◌, length}
use Rattle.stark_support.proofs.Loops.{Left}
use Rattle.stark_support.specs.Claims.{round_view}
use Rattle.stark_fri_prover.proofs.opening.have_points.Given as goal

abbrev pub invariant-loop-round : goal.invariant-loop-round
invariant-loop-round g l = Left round_view (λ r. length r.1 ≡ length r.0.matrices.items) l.rounds l.round-index
