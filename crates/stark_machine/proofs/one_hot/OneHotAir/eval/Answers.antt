use Rattle.std.proofs.Common.{[], ◌∷◌}
use Rattle.stark_air.proofs.Steps.{all_asserted, begun_asserted, last_asserted}
use Rattle.stark_machine.specs.Parts.{booleans, has_one_flag}
use Rattle.stark_machine.proofs.one_hot.OneHotAir.eval.Goals as goal

pub returns-in_err-eval-clause-asserted : goal.returns-in_err-eval-clause-asserted
returns-in_err-eval-clause-asserted g c =
    let one = g.F.Element.ONE in
    begun_asserted g.met.AB.BaseAirBuilder.emission_laws _ _ (booleans one 4) (has_one_flag one ∷ []) _ c.from_residual.ensures.0 c.in_err-eval.ensures.asserted

pub returns-clause-asserted : goal.returns-clause-asserted
returns-clause-asserted g c =
    let laws = g.met.AB.BaseAirBuilder.emission_laws in
    let one = g.F.Element.ONE in
    all_asserted laws _ _ _ (booleans one 4) (has_one_flag one ∷ []) _ c.in_ok-eval.ensures.asserted
    (last_asserted laws _ _ (has_one_flag one ∷ []) _ c.assert_one_flag.ensures.asserted c.assert_one_flag.ensures.refused)
