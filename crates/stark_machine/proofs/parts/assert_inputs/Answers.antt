use Rattle.std.proofs.Common.{[], ◌∷◌, ◌++◌}
use Rattle.stark_air.proofs.Steps.{all_asserted, last_asserted, refused_asserted}
use Rattle.stark_machine.specs.Machine.{begins_with_input, begins_with_zero}
use Rattle.stark_machine.proofs.parts.assert_inputs.Goals as goal

pub returns-in_err-assert_begins_with_input-clause-asserted : goal.returns-in_err-assert_begins_with_input-clause-asserted
returns-in_err-assert_begins_with_input-clause-asserted g c =
    let laws = g.met.AB.BaseAirBuilder.emission_laws in
    all_asserted laws _ _ _ (begins_with_zero 0 ∷ []) ((begins_with_input 0 ∷ []) ++ (begins_with_input 1 ∷ [])) _ c.in_ok-assert_begins_with_zero.ensures.asserted
    (refused_asserted laws _ _ ((begins_with_input 0 ∷ []) ++ (begins_with_input 1 ∷ [])) _ c.from_residual-in_err-assert_begins_with_input.ensures.0 c.in_err-assert_begins_with_input.ensures.refused)

pub returns-clause-asserted : goal.returns-clause-asserted
returns-clause-asserted g c =
    let laws = g.met.AB.BaseAirBuilder.emission_laws in
    all_asserted laws _ _ _ (begins_with_zero 0 ∷ []) ((begins_with_input 0 ∷ []) ++ (begins_with_input 1 ∷ [])) _ c.in_ok-assert_begins_with_zero.ensures.asserted
    (all_asserted laws _ _ _ (begins_with_input 0 ∷ []) ((begins_with_input 1 ∷ [])) _ c.in_ok-assert_begins_with_input.ensures.asserted
    (last_asserted laws _ _ (begins_with_input 1 ∷ []) _ c.assert_begins_with_input-2.ensures.asserted c.assert_begins_with_input-2.ensures.refused))
