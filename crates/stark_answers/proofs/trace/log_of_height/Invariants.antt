use Rattle.std.proofs.Common.{◌≡◌, ◌^◌, ◌<◌, ℕ}
use Rattle.stark_answers.proofs.trace.log_of_height.Given as goal

abbrev pub invariant-loop-log_height : goal.invariant-loop-log_height
invariant-loop-log_height l = (n : ℕ) → n < l.log_height → l.height ≡ 2 ^ n → ⊥
