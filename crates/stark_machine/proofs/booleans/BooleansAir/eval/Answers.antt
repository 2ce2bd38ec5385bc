use Rattle.std.proofs.Common.{arith}
use Rattle.stark_machine.specs.Parts.{is_boolean}
use Rattle.stark_machine.proofs.Loops.{each_all, each_one, each_some}
use Rattle.stark_machine.proofs.booleans.BooleansAir.eval.Goals as goal

pub loop-column-init : goal.loop-column-init
loop-column-init g c = g.met.AB.BaseAirBuilder.emission_laws.nothing _

pub loop-column-preserved : goal.loop-column-preserved
loop-column-preserved g c =
    each_one g.met.AB.BaseAirBuilder.emission_laws (is_boolean g.F.Element.ONE) 0 _ c.loop-column.column c.loop-column.column _ _ (omega arith) c.loop-column.invariant c.in_ok-assert_boolean.ensures.asserted

pub returns-in_err-assert_boolean-clause-asserted : goal.returns-in_err-assert_boolean-clause-asserted
returns-in_err-assert_boolean-clause-asserted g c =
    each_some g.met.AB.BaseAirBuilder.emission_laws (is_boolean g.F.Element.ONE) 0 _ c.loop-column.column g.row.N _ _ _ (omega arith) c.loop-column.invariant c.from_residual.ensures.0 c.in_err-assert_boolean.ensures.refused

pub returns-clause-asserted : goal.returns-clause-asserted
returns-clause-asserted g c =
    each_all g.met.AB.BaseAirBuilder.emission_laws (is_boolean g.F.Element.ONE) 0 _ c.loop-column.column g.row.N _ (omega arith) c.loop-column.invariant
