use Rattle.std.proofs.Common.{map}
use Rattle.std.specs.List.{range_with_len}
use Rattle.stark_machine.specs.Machine.{register_next}
use Rattle.stark_machine.proofs.parts.assert_registers_next.Given as goal

abbrev pub invariant-loop-register : goal.invariant-loop-register
invariant-loop-register g l = g.AB.BaseAirBuilder.after l.fn.builder (map register_next (range_with_len 0 l.register)) l.builder
