use Rattle.stark_air.proofs.Steps.{two_asserted}
use Rattle.guide_tests.proofs.doubling.DoublingAirAir.eval.Goals as goal

pub returns-clause-asserted : goal.returns-clause-asserted
returns-clause-asserted g c = two_asserted g.met.AB.BaseAirBuilder.emission_laws _ _ _ _ _ _
    c.in_ok-assert_begin.ensures.asserted c.assert_double.ensures.asserted c.assert_double.ensures.refused
