use Rattle.std.proofs.Common.{[], ◌∷◌, map}
use Rattle.std.specs.List.{range_with_len}
use Rattle.stark_air.proofs.Steps.{all_asserted, begun_asserted}
use Rattle.stark_machine.specs.Machine.{begins_with_input, begins_with_zero}
use Rattle.stark_machine.proofs.parts.assert_beginning.Goals as goal

pub returns-in_err-assert_inputs-clause-asserted : goal.returns-in_err-assert_inputs-clause-asserted
returns-in_err-assert_inputs-clause-asserted g c =
    let laws = g.met.AB.BaseAirBuilder.emission_laws in
    begun_asserted laws _ _ (begins_with_zero 0 ∷ begins_with_input 0 ∷ begins_with_input 1 ∷ []) ((map begins_with_zero (range_with_len 4 6))) _ c.from_residual.ensures.0 c.in_err-assert_inputs.ensures.asserted

pub returns-clause-asserted : goal.returns-clause-asserted
returns-clause-asserted g c =
    let laws = g.met.AB.BaseAirBuilder.emission_laws in
    all_asserted laws _ _ _ (begins_with_zero 0 ∷ begins_with_input 0 ∷ begins_with_input 1 ∷ []) ((map begins_with_zero (range_with_len 4 6))) _ c.in_ok-assert_inputs.ensures.asserted
    c.assert_zeros.ensures.asserted
