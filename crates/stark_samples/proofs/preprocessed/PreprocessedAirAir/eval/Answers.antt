use Rattle.stark_air.proofs.Steps.{last_asserted}
use Rattle.stark_samples.proofs.preprocessed.PreprocessedAirAir.eval.Goals as goal

pub returns-clause-asserted : goal.returns-clause-asserted
returns-clause-asserted g c = last_asserted g.met.AB.BaseAirBuilder.emission_laws _ _ _ _ c.assert_is_preprocessed.ensures.asserted c.assert_is_preprocessed.ensures.refused
