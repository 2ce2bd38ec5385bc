use Rattle.stark_air.proofs.Steps.{all_asserted, begun_asserted}
use Rattle.stark_machine.specs.Columns.{left, left_index, right, right_index}
use Rattle.stark_machine.specs.Machine.{read}
use Rattle.stark_machine.proofs.parts.assert_reads.Goals as goal

pub returns-in_err-assert_read-clause-asserted : goal.returns-in_err-assert_read-clause-asserted
returns-in_err-assert_read-clause-asserted g c =
    let laws = g.met.AB.BaseAirBuilder.emission_laws in
    begun_asserted laws _ _ (read g.F.Element.ONE g.F.PrimeField64.of_number left left_index) ((read g.F.Element.ONE g.F.PrimeField64.of_number right right_index)) _ c.from_residual.ensures.0 c.in_err-assert_read.ensures.asserted

pub returns-clause-asserted : goal.returns-clause-asserted
returns-clause-asserted g c =
    let laws = g.met.AB.BaseAirBuilder.emission_laws in
    all_asserted laws _ _ _ (read g.F.Element.ONE g.F.PrimeField64.of_number left left_index) ((read g.F.Element.ONE g.F.PrimeField64.of_number right right_index)) _ c.in_ok-assert_read.ensures.asserted
    c.assert_read-2.ensures.asserted
