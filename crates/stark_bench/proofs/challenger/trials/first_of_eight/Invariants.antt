use Rattle.std.proofs.Common.{◌≡◌, ◌+◌, ◌<◌, ℕ, false}
use Rattle.stark_bench.specs.Challenges.{after_trial, passes_after}
use Rattle.stark_bench.proofs.challenger.trials.first_of_eight.Given as goal

-- None of the lanes before passed.
abbrev pub invariant-loop-lane : goal.invariant-loop-lane
invariant-loop-lane l = (j : ℕ) → j < l.lane → passes_after (after_trial l.state (l.first + j)) l.bits ≡ false
