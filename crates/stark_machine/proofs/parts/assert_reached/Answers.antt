use Rattle.std.proofs.Common.{[], ◌∷◌, ◌++◌, map}
use Rattle.stark_air.specs.Shift.{shift}
use Rattle.stark_air.proofs.Steps.{all_asserted, begun_asserted, last_asserted, refused_asserted}
use Rattle.stark_machine.specs.Machine.{reaches_address, reaches_one}
use Rattle.stark_machine.specs.Parts.{booleans}
use Rattle.stark_machine.proofs.parts.assert_reached.Goals as goal

pub returns-in_err-eval_on_columns-clause-asserted : goal.returns-in_err-eval_on_columns-clause-asserted
returns-in_err-eval_on_columns-clause-asserted g c =
    let laws = g.met.AB.BaseAirBuilder.emission_laws in
    begun_asserted laws _ _ (map (shift 22) (booleans g.F.Element.ONE 4)) ((reaches_one ∷ []) ++ (reaches_address g.F.PrimeField64.of_number ∷ [])) _ c.from_residual.ensures.0 c.in_err-eval_on_columns.ensures.asserted

pub returns-in_err-assert_reaches_one-clause-asserted : goal.returns-in_err-assert_reaches_one-clause-asserted
returns-in_err-assert_reaches_one-clause-asserted g c =
    let laws = g.met.AB.BaseAirBuilder.emission_laws in
    all_asserted laws _ _ _ (map (shift 22) (booleans g.F.Element.ONE 4)) ((reaches_one ∷ []) ++ (reaches_address g.F.PrimeField64.of_number ∷ [])) _ c.in_ok-eval_on_columns.ensures.asserted
    (refused_asserted laws _ _ ((reaches_one ∷ []) ++ (reaches_address g.F.PrimeField64.of_number ∷ [])) _ c.from_residual-in_err-assert_reaches_one.ensures.0 c.in_err-assert_reaches_one.ensures.refused)

pub returns-clause-asserted : goal.returns-clause-asserted
returns-clause-asserted g c =
    let laws = g.met.AB.BaseAirBuilder.emission_laws in
    all_asserted laws _ _ _ (map (shift 22) (booleans g.F.Element.ONE 4)) ((reaches_one ∷ []) ++ (reaches_address g.F.PrimeField64.of_number ∷ [])) _ c.in_ok-eval_on_columns.ensures.asserted
    (all_asserted laws _ _ _ (reaches_one ∷ []) ((reaches_address g.F.PrimeField64.of_number ∷ [])) _ c.in_ok-assert_reaches_one.ensures.asserted
    (last_asserted laws _ _ (reaches_address g.F.PrimeField64.of_number ∷ []) _ c.assert_reaches_address.ensures.asserted c.assert_reaches_address.ensures.refused))
