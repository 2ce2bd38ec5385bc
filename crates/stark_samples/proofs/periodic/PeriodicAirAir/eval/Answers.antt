use Rattle.stark_air.proofs.Steps.{last_asserted}
use Rattle.stark_samples.proofs.periodic.PeriodicAirAir.eval.Goals as goal

pub returns-clause-asserted : goal.returns-clause-asserted
returns-clause-asserted g c = last_asserted g.met.AB.BaseAirBuilder.emission_laws _ _ _ _ c.assert_is_periodic.ensures.asserted c.assert_is_periodic.ensures.refused
