use Rattle.std.proofs.Common.{[], ◌∷◌}
use Rattle.stark_air.proofs.Steps.{all_asserted, last_asserted}
use Rattle.stark_machine.specs.Machine.{continues, pc_next}
use Rattle.stark_machine.proofs.parts.assert_control.Goals as goal

pub returns-clause-asserted : goal.returns-clause-asserted
returns-clause-asserted g c =
    let laws = g.met.AB.BaseAirBuilder.emission_laws in
    all_asserted laws _ _ _ (continues g.F.Element.ONE ∷ []) ((pc_next ∷ [])) _ c.in_ok-assert_continues.ensures.asserted
    (last_asserted laws _ _ (pc_next ∷ []) _ c.assert_pc_next.ensures.asserted c.assert_pc_next.ensures.refused)
