use Rattle.std.proofs.Common.{map}
use Rattle.std.specs.List.{range_with_len}
use Rattle.stark_machine.specs.Machine.{begins_with_zero}
use Rattle.stark_machine.proofs.parts.assert_zeros.Given as goal

abbrev pub invariant-loop-column : goal.invariant-loop-column
invariant-loop-column g l = g.AB.BaseAirBuilder.after l.fn.builder (map begins_with_zero (range_with_len 4 l.column)) l.builder
