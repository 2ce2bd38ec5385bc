use Rattle.stark_air.proofs.Steps.{then_asserted}
use Rattle.protocol_tests.proofs.sized_airs.assert_three_columns.Goals as goal

pub returns-clause-asserted : goal.returns-clause-asserted
returns-clause-asserted g c = then_asserted g.met.AB.BaseAirBuilder.emission_laws _ _ _ _ _ _ c.in_ok-assert_column.ensures.asserted c.assert_two_columns.ensures.asserted
