use Rattle.std.proofs.Common.{arith}
use Rattle.stark_machine.specs.Machine.{register_next}
use Rattle.stark_machine.proofs.Loops.{each_all, each_one, each_some}
use Rattle.stark_machine.proofs.parts.assert_registers_next.Goals as goal

pub loop-register-init : goal.loop-register-init
loop-register-init g c = g.met.AB.BaseAirBuilder.emission_laws.nothing _

pub loop-register-preserved : goal.loop-register-preserved
loop-register-preserved g c =
    each_one g.met.AB.BaseAirBuilder.emission_laws register_next 0 _ c.loop-register.register c.loop-register.register _ _ (omega arith) c.loop-register.invariant c.in_ok-assert_register_next.ensures.asserted

pub returns-in_err-assert_register_next-clause-asserted : goal.returns-in_err-assert_register_next-clause-asserted
returns-in_err-assert_register_next-clause-asserted g c =
    each_some g.met.AB.BaseAirBuilder.emission_laws register_next 0 _ c.loop-register.register 4 _ _ _ (omega arith) c.loop-register.invariant c.from_residual.ensures.0 c.in_err-assert_register_next.ensures.refused

pub returns-clause-asserted : goal.returns-clause-asserted
returns-clause-asserted g c =
    each_all g.met.AB.BaseAirBuilder.emission_laws register_next 0 _ c.loop-register.register 4 _ (omega arith) c.loop-register.invariant
