use Rattle.std.proofs.Common.{◌≡◌}
use Rattle.stark_support.proofs.Loops.{Left}
use Rattle.stark_support.specs.Claims.{round_view}
use Rattle.stark_fri_prover.proofs.opening.have_height.Given as goal

abbrev pub invariant-loop-round : goal.invariant-loop-round
invariant-loop-round g l = Left round_view (λ r. r.0.domain.log_size ≡ l.log_height) l.rounds l.round-index
