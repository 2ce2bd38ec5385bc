use Rattle.std.proofs.Common.{[], ◌∷◌}
use Rattle.stark_air.proofs.Steps.{all_asserted, last_asserted}
use Rattle.stark_machine.specs.Machine.{ends_active, ends_with_result}
use Rattle.stark_machine.proofs.parts.assert_end.Goals as goal

pub returns-clause-asserted : goal.returns-clause-asserted
returns-clause-asserted g c =
    let laws = g.met.AB.BaseAirBuilder.emission_laws in
    all_asserted laws _ _ _ (ends_active g.F.Element.ONE ∷ []) ((ends_with_result ∷ [])) _ c.in_ok-assert_ends_active.ensures.asserted
    (last_asserted laws _ _ (ends_with_result ∷ []) _ c.assert_ends_with_result.ensures.asserted c.assert_ends_with_result.ensures.refused)
