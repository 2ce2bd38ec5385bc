use Rattle.std.proofs.Common.{[], ◌∷◌}
use Rattle.stark_air.proofs.Steps.{all_asserted, last_asserted}
use Rattle.stark_machine.specs.Machine.{first_operand, second_operand}
use Rattle.stark_machine.proofs.parts.assert_operands.Goals as goal

pub returns-clause-asserted : goal.returns-clause-asserted
returns-clause-asserted g c =
    let laws = g.met.AB.BaseAirBuilder.emission_laws in
    all_asserted laws _ _ _ (first_operand ∷ []) ((second_operand ∷ [])) _ c.in_ok-assert_first_operand.ensures.asserted
    (last_asserted laws _ _ (second_operand ∷ []) _ c.assert_second_operand.ensures.asserted c.assert_second_operand.ensures.refused)
