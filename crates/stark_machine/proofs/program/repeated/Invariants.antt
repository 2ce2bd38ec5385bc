use Rattle.std.proofs.Common.{◌≡◌}
use Rattle.stark_machine.specs.Program.{copies}
use Rattle.stark_machine.proofs.program.repeated.Given as goal

abbrev pub invariant-loop : goal.invariant-loop
invariant-loop g l = l.values.items ≡ copies l.counter l.numbers
