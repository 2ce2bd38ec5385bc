use Rattle.std.proofs.Common.{map}
use Rattle.std.specs.List.{range_with_len}
use Rattle.stark_machine.specs.Parts.{is_boolean}
use Rattle.stark_machine.proofs.booleans.BooleansAir.eval.Given as goal

abbrev pub invariant-loop-column : goal.invariant-loop-column
invariant-loop-column g l = g.AB.BaseAirBuilder.after l.fn.builder (map (is_boolean g.F.Element.ONE) (range_with_len 0 l.column)) l.builder
