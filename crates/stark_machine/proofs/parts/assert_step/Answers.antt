use Rattle.std.proofs.Common.{◌++◌}
use Rattle.stark_air.proofs.Steps.{all_asserted, begun_asserted}
use Rattle.stark_machine.specs.Machine.{next_row, operands, results}
use Rattle.stark_machine.proofs.parts.assert_step.Goals as goal

pub returns-in_err-assert_operands-clause-asserted : goal.returns-in_err-assert_operands-clause-asserted
returns-in_err-assert_operands-clause-asserted g c =
    let laws = g.met.AB.BaseAirBuilder.emission_laws in
    begun_asserted laws _ _ (operands) ((results g.F.Element.ONE g.F.PrimeField64.of_number) ++ (next_row g.F.Element.ONE)) _ c.from_residual.ensures.0 c.in_err-assert_operands.ensures.asserted

pub returns-in_err-assert_results-clause-asserted : goal.returns-in_err-assert_results-clause-asserted
returns-in_err-assert_results-clause-asserted g c =
    let laws = g.met.AB.BaseAirBuilder.emission_laws in
    all_asserted laws _ _ _ (operands) ((results g.F.Element.ONE g.F.PrimeField64.of_number) ++ (next_row g.F.Element.ONE)) _ c.in_ok-assert_operands.ensures.asserted
    (begun_asserted laws _ _ (results g.F.Element.ONE g.F.PrimeField64.of_number) ((next_row g.F.Element.ONE)) _ c.from_residual-in_err-assert_results.ensures.0 c.in_err-assert_results.ensures.asserted)

pub returns-clause-asserted : goal.returns-clause-asserted
returns-clause-asserted g c =
    let laws = g.met.AB.BaseAirBuilder.emission_laws in
    all_asserted laws _ _ _ (operands) ((results g.F.Element.ONE g.F.PrimeField64.of_number) ++ (next_row g.F.Element.ONE)) _ c.in_ok-assert_operands.ensures.asserted
    (all_asserted laws _ _ _ (results g.F.Element.ONE g.F.PrimeField64.of_number) ((next_row g.F.Element.ONE)) _ c.in_ok-assert_results.ensures.asserted
    c.assert_next_row.ensures.asserted)
