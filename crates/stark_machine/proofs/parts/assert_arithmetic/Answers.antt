use Rattle.std.proofs.Common.{[], ◌∷◌, ◌++◌}
use Rattle.stark_air.proofs.Steps.{all_asserted, last_asserted, refused_asserted}
use Rattle.stark_machine.specs.Machine.{adds, multiplies, subtracts}
use Rattle.stark_machine.proofs.parts.assert_arithmetic.Goals as goal

pub returns-in_err-assert_subtracts-clause-asserted : goal.returns-in_err-assert_subtracts-clause-asserted
returns-in_err-assert_subtracts-clause-asserted g c =
    let laws = g.met.AB.BaseAirBuilder.emission_laws in
    all_asserted laws _ _ _ (adds ∷ []) ((subtracts ∷ []) ++ (multiplies ∷ [])) _ c.in_ok-assert_adds.ensures.asserted
    (refused_asserted laws _ _ ((subtracts ∷ []) ++ (multiplies ∷ [])) _ c.from_residual-in_err-assert_subtracts.ensures.0 c.in_err-assert_subtracts.ensures.refused)

pub returns-clause-asserted : goal.returns-clause-asserted
returns-clause-asserted g c =
    let laws = g.met.AB.BaseAirBuilder.emission_laws in
    all_asserted laws _ _ _ (adds ∷ []) ((subtracts ∷ []) ++ (multiplies ∷ [])) _ c.in_ok-assert_adds.ensures.asserted
    (all_asserted laws _ _ _ (subtracts ∷ []) ((multiplies ∷ [])) _ c.in_ok-assert_subtracts.ensures.asserted
    (last_asserted laws _ _ (multiplies ∷ []) _ c.assert_multiplies.ensures.asserted c.assert_multiplies.ensures.refused))
