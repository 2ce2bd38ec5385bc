use Rattle.stark_air.proofs.Steps.{then_asserted, two_asserted, refused_asserted}
use Rattle.stark_samples.proofs.small.assert_mixed.Goals as goal

pub returns-in_err-assert_two_above-clause-asserted : goal.returns-in_err-assert_two_above-clause-asserted
returns-in_err-assert_two_above-clause-asserted g c =
    let laws = g.met.AB.BaseAirBuilder.emission_laws in
    then_asserted laws _ _ _ _ _ _ c.in_ok-assert_number.ensures.asserted
    (refused_asserted laws _ _ _ _ c.from_residual-in_err-assert_two_above.ensures.0 c.in_err-assert_two_above.ensures.refused)

pub returns-clause-asserted : goal.returns-clause-asserted
returns-clause-asserted g c =
    let laws = g.met.AB.BaseAirBuilder.emission_laws in
    then_asserted laws _ _ _ _ _ _ c.in_ok-assert_number.ensures.asserted
    (two_asserted laws _ _ _ _ _ _ c.in_ok-assert_two_above.ensures.asserted c.assert_number-2.ensures.asserted c.assert_number-2.ensures.refused)
