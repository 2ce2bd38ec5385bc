use Rattle.std.proofs.Common.{◌+◌, arith}
use Rattle.stark_machine.specs.Machine.{begins_with_zero}
use Rattle.stark_machine.proofs.Loops.{each_all, each_one, each_some}
use Rattle.stark_machine.proofs.parts.assert_zeros.Goals as goal

pub loop-column-init : goal.loop-column-init
loop-column-init g c = g.met.AB.BaseAirBuilder.emission_laws.nothing _

pub loop-column-preserved : goal.loop-column-preserved
loop-column-preserved g c =
    each_one g.met.AB.BaseAirBuilder.emission_laws begins_with_zero 4 _ c.loop-column.column (4 + c.loop-column.column) _ _ (omega arith) c.loop-column.invariant c.in_ok-assert_begins_with_zero.ensures.asserted

pub returns-in_err-assert_begins_with_zero-clause-asserted : goal.returns-in_err-assert_begins_with_zero-clause-asserted
returns-in_err-assert_begins_with_zero-clause-asserted g c =
    each_some g.met.AB.BaseAirBuilder.emission_laws begins_with_zero 4 _ c.loop-column.column 6 _ _ _ (omega arith) c.loop-column.invariant c.from_residual.ensures.0 c.in_err-assert_begins_with_zero.ensures.refused

pub returns-clause-asserted : goal.returns-clause-asserted
returns-clause-asserted g c =
    each_all g.met.AB.BaseAirBuilder.emission_laws begins_with_zero 4 _ c.loop-column.column 6 _ (omega arith) c.loop-column.invariant
