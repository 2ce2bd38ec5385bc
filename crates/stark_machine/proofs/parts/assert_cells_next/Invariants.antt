use Rattle.std.proofs.Common.{map}
use Rattle.std.specs.List.{range_with_len}
use Rattle.stark_machine.specs.Machine.{cell_next}
use Rattle.stark_machine.proofs.parts.assert_cells_next.Given as goal

abbrev pub invariant-loop-cell : goal.invariant-loop-cell
invariant-loop-cell g l = g.AB.BaseAirBuilder.after l.fn.builder (map cell_next (range_with_len 0 l.cell)) l.builder
