use Rattle.std.proofs.Common.{◌≡◌, ◌++◌, map, drop}
use Rattle.stark_support.specs.Seed.{steps_bytes, step_view}
use Rattle.stark_support.proofs.pattern.push_steps.Given as goal

-- What is written, with what is left to write, is all.
abbrev pub invariant-loop-step : goal.invariant-loop-step
invariant-loop-step l = l.bytes.items ++ steps_bytes (map step_view (drop l.step-index l.steps)) ≡ l.fn.bytes.items ++ steps_bytes (map step_view l.fn.steps)
