use Rattle.std.proofs.Common.{[], ◌∷◌, ◌++◌}
use Rattle.stark_air.proofs.Steps.{all_asserted, last_asserted, refused_asserted}
use Rattle.stark_machine.specs.Machine.{jumps_by_product, jumps_unless_zero, loads}
use Rattle.stark_machine.proofs.parts.assert_transfers.Goals as goal

pub returns-in_err-assert_jumps_by_product-clause-asserted : goal.returns-in_err-assert_jumps_by_product-clause-asserted
returns-in_err-assert_jumps_by_product-clause-asserted g c =
    let laws = g.met.AB.BaseAirBuilder.emission_laws in
    all_asserted laws _ _ _ (loads ∷ []) ((jumps_by_product ∷ []) ++ (jumps_unless_zero ∷ [])) _ c.in_ok-assert_loads.ensures.asserted
    (refused_asserted laws _ _ ((jumps_by_product ∷ []) ++ (jumps_unless_zero ∷ [])) _ c.from_residual-in_err-assert_jumps_by_product.ensures.0 c.in_err-assert_jumps_by_product.ensures.refused)

pub returns-clause-asserted : goal.returns-clause-asserted
returns-clause-asserted g c =
    let laws = g.met.AB.BaseAirBuilder.emission_laws in
    all_asserted laws _ _ _ (loads ∷ []) ((jumps_by_product ∷ []) ++ (jumps_unless_zero ∷ [])) _ c.in_ok-assert_loads.ensures.asserted
    (all_asserted laws _ _ _ (jumps_by_product ∷ []) ((jumps_unless_zero ∷ [])) _ c.in_ok-assert_jumps_by_product.ensures.asserted
    (last_asserted laws _ _ (jumps_unless_zero ∷ []) _ c.assert_jumps_unless_zero.ensures.asserted c.assert_jumps_unless_zero.ensures.refused))
