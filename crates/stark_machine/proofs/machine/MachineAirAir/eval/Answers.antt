use Rattle.std.proofs.Common.{◌++◌}
use Rattle.stark_air.proofs.Steps.{all_asserted, begun_asserted}
use Rattle.stark_machine.specs.Machine.{beginning, choices, end, step}
use Rattle.stark_machine.proofs.machine.MachineAirAir.eval.Goals as goal

pub returns-in_err-assert_choices-clause-asserted : goal.returns-in_err-assert_choices-clause-asserted
returns-in_err-assert_choices-clause-asserted g c =
    let laws = g.met.AB.BaseAirBuilder.emission_laws in
    begun_asserted laws _ _ (choices g.F.Element.ONE g.F.PrimeField64.of_number) ((step g.F.Element.ONE g.F.PrimeField64.of_number) ++ (beginning) ++ (end g.F.Element.ONE)) _ c.from_residual.ensures.0 c.in_err-assert_choices.ensures.asserted

pub returns-in_err-assert_step-clause-asserted : goal.returns-in_err-assert_step-clause-asserted
returns-in_err-assert_step-clause-asserted g c =
    let laws = g.met.AB.BaseAirBuilder.emission_laws in
    all_asserted laws _ _ _ (choices g.F.Element.ONE g.F.PrimeField64.of_number) ((step g.F.Element.ONE g.F.PrimeField64.of_number) ++ (beginning) ++ (end g.F.Element.ONE)) _ c.in_ok-assert_choices.ensures.asserted
    (begun_asserted laws _ _ (step g.F.Element.ONE g.F.PrimeField64.of_number) ((beginning) ++ (end g.F.Element.ONE)) _ c.from_residual-in_err-assert_step.ensures.0 c.in_err-assert_step.ensures.asserted)

pub returns-in_err-assert_beginning-clause-asserted : goal.returns-in_err-assert_beginning-clause-asserted
returns-in_err-assert_beginning-clause-asserted g c =
    let laws = g.met.AB.BaseAirBuilder.emission_laws in
    all_asserted laws _ _ _ (choices g.F.Element.ONE g.F.PrimeField64.of_number) ((step g.F.Element.ONE g.F.PrimeField64.of_number) ++ (beginning) ++ (end g.F.Element.ONE)) _ c.in_ok-assert_choices.ensures.asserted
    (all_asserted laws _ _ _ (step g.F.Element.ONE g.F.PrimeField64.of_number) ((beginning) ++ (end g.F.Element.ONE)) _ c.in_ok-assert_step.ensures.asserted
    (begun_asserted laws _ _ (beginning) ((end g.F.Element.ONE)) _ c.from_residual-in_err-assert_beginning.ensures.0 c.in_err-assert_beginning.ensures.asserted))

pub returns-clause-asserted : goal.returns-clause-asserted
returns-clause-asserted g c =
    let laws = g.met.AB.BaseAirBuilder.emission_laws in
    all_asserted laws _ _ _ (choices g.F.Element.ONE g.F.PrimeField64.of_number) ((step g.F.Element.ONE g.F.PrimeField64.of_number) ++ (beginning) ++ (end g.F.Element.ONE)) _ c.in_ok-assert_choices.ensures.asserted
    (all_asserted laws _ _ _ (step g.F.Element.ONE g.F.PrimeField64.of_number) ((beginning) ++ (end g.F.Element.ONE)) _ c.in_ok-assert_step.ensures.asserted
    (all_asserted laws _ _ _ (beginning) ((end g.F.Element.ONE)) _ c.in_ok-assert_beginning.ensures.asserted
    c.assert_end.ensures.asserted))
