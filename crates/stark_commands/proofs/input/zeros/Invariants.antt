use Rattle.std.proofs.Common.{◌≡◌}
use Rattle.stark_commands.specs.Input.{zeros}
use Rattle.stark_commands.proofs.input.zeros.Given as goal

abbrev pub invariant-loop-column : goal.invariant-loop-column
invariant-loop-column l = l.row.items ≡ zeros l._column
