use Rattle.std.proofs.Common.{◌++◌}
use Rattle.stark_air.proofs.Steps.{all_asserted, begun_asserted}
use Rattle.stark_machine.specs.Machine.{activity, reached, reads, written}
use Rattle.stark_machine.proofs.parts.assert_choices.Goals as goal

pub returns-in_err-assert_activity-clause-asserted : goal.returns-in_err-assert_activity-clause-asserted
returns-in_err-assert_activity-clause-asserted g c =
    let laws = g.met.AB.BaseAirBuilder.emission_laws in
    begun_asserted laws _ _ (activity g.F.Element.ONE) ((reads g.F.Element.ONE g.F.PrimeField64.of_number) ++ (written g.F.Element.ONE g.F.PrimeField64.of_number ++ reached g.F.Element.ONE g.F.PrimeField64.of_number)) _ c.from_residual.ensures.0 c.in_err-assert_activity.ensures.asserted

pub returns-in_err-assert_reads-clause-asserted : goal.returns-in_err-assert_reads-clause-asserted
returns-in_err-assert_reads-clause-asserted g c =
    let laws = g.met.AB.BaseAirBuilder.emission_laws in
    all_asserted laws _ _ _ (activity g.F.Element.ONE) ((reads g.F.Element.ONE g.F.PrimeField64.of_number) ++ (written g.F.Element.ONE g.F.PrimeField64.of_number ++ reached g.F.Element.ONE g.F.PrimeField64.of_number)) _ c.in_ok-assert_activity.ensures.asserted
    (begun_asserted laws _ _ (reads g.F.Element.ONE g.F.PrimeField64.of_number) ((written g.F.Element.ONE g.F.PrimeField64.of_number ++ reached g.F.Element.ONE g.F.PrimeField64.of_number)) _ c.from_residual-in_err-assert_reads.ensures.0 c.in_err-assert_reads.ensures.asserted)

pub returns-clause-asserted : goal.returns-clause-asserted
returns-clause-asserted g c =
    let laws = g.met.AB.BaseAirBuilder.emission_laws in
    all_asserted laws _ _ _ (activity g.F.Element.ONE) ((reads g.F.Element.ONE g.F.PrimeField64.of_number) ++ (written g.F.Element.ONE g.F.PrimeField64.of_number ++ reached g.F.Element.ONE g.F.PrimeField64.of_number)) _ c.in_ok-assert_activity.ensures.asserted
    (all_asserted laws _ _ _ (reads g.F.Element.ONE g.F.PrimeField64.of_number) ((written g.F.Element.ONE g.F.PrimeField64.of_number ++ reached g.F.Element.ONE g.F.PrimeField64.of_number)) _ c.in_ok-assert_reads.ensures.asserted
    c.assert_effects.ensures.asserted)
