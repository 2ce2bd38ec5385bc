use Rattle.stark_air.proofs.Steps.{two_asserted}
use Rattle.stark_samples.proofs.fibonacci.assert_starts.Goals as goal

pub returns-clause-asserted : goal.returns-clause-asserted
returns-clause-asserted g c = two_asserted g.met.AB.BaseAirBuilder.emission_laws _ _ _ _ _ _ c.in_ok-assert_start.ensures.asserted c.assert_start-2.ensures.asserted c.assert_start-2.ensures.refused
