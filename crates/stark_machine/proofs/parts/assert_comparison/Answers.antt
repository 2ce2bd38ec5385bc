use Rattle.std.proofs.Common.{[], ◌∷◌}
use Rattle.stark_air.proofs.Steps.{all_asserted, last_asserted}
use Rattle.stark_machine.specs.Machine.{compares, has_digits}
use Rattle.stark_machine.proofs.parts.assert_comparison.Goals as goal

pub returns-clause-asserted : goal.returns-clause-asserted
returns-clause-asserted g c =
    let laws = g.met.AB.BaseAirBuilder.emission_laws in
    all_asserted laws _ _ _ (compares g.F.Element.ONE ∷ []) ((has_digits g.F.Element.ONE g.F.PrimeField64.of_number ∷ [])) _ c.in_ok-assert_compares.ensures.asserted
    (last_asserted laws _ _ (has_digits g.F.Element.ONE g.F.PrimeField64.of_number ∷ []) _ c.assert_digits.ensures.asserted c.assert_digits.ensures.refused)
