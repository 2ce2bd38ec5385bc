use Rattle.stark_air.proofs.Steps.{all_asserted, begun_asserted}
use Rattle.stark_machine.specs.Machine.{reached, written}
use Rattle.stark_machine.proofs.parts.assert_effects.Goals as goal

pub returns-in_err-assert_written-clause-asserted : goal.returns-in_err-assert_written-clause-asserted
returns-in_err-assert_written-clause-asserted g c =
    let laws = g.met.AB.BaseAirBuilder.emission_laws in
    begun_asserted laws _ _ (written g.F.Element.ONE g.F.PrimeField64.of_number) ((reached g.F.Element.ONE g.F.PrimeField64.of_number)) _ c.from_residual.ensures.0 c.in_err-assert_written.ensures.asserted

pub returns-clause-asserted : goal.returns-clause-asserted
returns-clause-asserted g c =
    let laws = g.met.AB.BaseAirBuilder.emission_laws in
    all_asserted laws _ _ _ (written g.F.Element.ONE g.F.PrimeField64.of_number) ((reached g.F.Element.ONE g.F.PrimeField64.of_number)) _ c.in_ok-assert_written.ensures.asserted
    c.assert_reached.ensures.asserted
