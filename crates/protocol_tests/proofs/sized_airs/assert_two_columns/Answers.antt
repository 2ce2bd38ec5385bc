use Rattle.stark_air.proofs.Steps.{two_asserted}
use Rattle.protocol_tests.proofs.sized_airs.assert_two_columns.Goals as goal

pub returns-clause-asserted : goal.returns-clause-asserted
returns-clause-asserted g c = two_asserted g.met.AB.BaseAirBuilder.emission_laws _ _ _ _ _ _ c.in_ok-assert_column.ensures.asserted c.assert_column-2.ensures.asserted c.assert_column-2.ensures.refused
