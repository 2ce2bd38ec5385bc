use Rattle.std.proofs.Common.{[], ◌∷◌, ◌++◌, map}
use Rattle.stark_air.specs.Shift.{shift}
use Rattle.stark_air.proofs.Steps.{all_asserted, begun_asserted}
use Rattle.stark_machine.specs.Machine.{adds, compares, has_digits, jumps_by_product, jumps_unless_zero, loads, multiplies, subtracts}
use Rattle.stark_machine.specs.Parts.{booleans}
use Rattle.stark_machine.proofs.parts.assert_results.Goals as goal

pub returns-in_err-eval_on_columns-clause-asserted : goal.returns-in_err-eval_on_columns-clause-asserted
returns-in_err-eval_on_columns-clause-asserted g c =
    let laws = g.met.AB.BaseAirBuilder.emission_laws in
    begun_asserted laws _ _ (map (shift 31) (booleans g.F.Element.ONE 9)) ((adds ∷ subtracts ∷ multiplies ∷ []) ++ (compares g.F.Element.ONE ∷ has_digits g.F.Element.ONE g.F.PrimeField64.of_number ∷ []) ++ (loads ∷ jumps_by_product ∷ jumps_unless_zero ∷ [])) _ c.from_residual.ensures.0 c.in_err-eval_on_columns.ensures.asserted

pub returns-in_err-assert_arithmetic-clause-asserted : goal.returns-in_err-assert_arithmetic-clause-asserted
returns-in_err-assert_arithmetic-clause-asserted g c =
    let laws = g.met.AB.BaseAirBuilder.emission_laws in
    all_asserted laws _ _ _ (map (shift 31) (booleans g.F.Element.ONE 9)) ((adds ∷ subtracts ∷ multiplies ∷ []) ++ (compares g.F.Element.ONE ∷ has_digits g.F.Element.ONE g.F.PrimeField64.of_number ∷ []) ++ (loads ∷ jumps_by_product ∷ jumps_unless_zero ∷ [])) _ c.in_ok-eval_on_columns.ensures.asserted
    (begun_asserted laws _ _ (adds ∷ subtracts ∷ multiplies ∷ []) ((compares g.F.Element.ONE ∷ has_digits g.F.Element.ONE g.F.PrimeField64.of_number ∷ []) ++ (loads ∷ jumps_by_product ∷ jumps_unless_zero ∷ [])) _ c.from_residual-in_err-assert_arithmetic.ensures.0 c.in_err-assert_arithmetic.ensures.asserted)

pub returns-in_err-assert_comparison-clause-asserted : goal.returns-in_err-assert_comparison-clause-asserted
returns-in_err-assert_comparison-clause-asserted g c =
    let laws = g.met.AB.BaseAirBuilder.emission_laws in
    all_asserted laws _ _ _ (map (shift 31) (booleans g.F.Element.ONE 9)) ((adds ∷ subtracts ∷ multiplies ∷ []) ++ (compares g.F.Element.ONE ∷ has_digits g.F.Element.ONE g.F.PrimeField64.of_number ∷ []) ++ (loads ∷ jumps_by_product ∷ jumps_unless_zero ∷ [])) _ c.in_ok-eval_on_columns.ensures.asserted
    (all_asserted laws _ _ _ (adds ∷ subtracts ∷ multiplies ∷ []) ((compares g.F.Element.ONE ∷ has_digits g.F.Element.ONE g.F.PrimeField64.of_number ∷ []) ++ (loads ∷ jumps_by_product ∷ jumps_unless_zero ∷ [])) _ c.in_ok-assert_arithmetic.ensures.asserted
    (begun_asserted laws _ _ (compares g.F.Element.ONE ∷ has_digits g.F.Element.ONE g.F.PrimeField64.of_number ∷ []) ((loads ∷ jumps_by_product ∷ jumps_unless_zero ∷ [])) _ c.from_residual-in_err-assert_comparison.ensures.0 c.in_err-assert_comparison.ensures.asserted))

pub returns-clause-asserted : goal.returns-clause-asserted
returns-clause-asserted g c =
    let laws = g.met.AB.BaseAirBuilder.emission_laws in
    all_asserted laws _ _ _ (map (shift 31) (booleans g.F.Element.ONE 9)) ((adds ∷ subtracts ∷ multiplies ∷ []) ++ (compares g.F.Element.ONE ∷ has_digits g.F.Element.ONE g.F.PrimeField64.of_number ∷ []) ++ (loads ∷ jumps_by_product ∷ jumps_unless_zero ∷ [])) _ c.in_ok-eval_on_columns.ensures.asserted
    (all_asserted laws _ _ _ (adds ∷ subtracts ∷ multiplies ∷ []) ((compares g.F.Element.ONE ∷ has_digits g.F.Element.ONE g.F.PrimeField64.of_number ∷ []) ++ (loads ∷ jumps_by_product ∷ jumps_unless_zero ∷ [])) _ c.in_ok-assert_arithmetic.ensures.asserted
    (all_asserted laws _ _ _ (compares g.F.Element.ONE ∷ has_digits g.F.Element.ONE g.F.PrimeField64.of_number ∷ []) ((loads ∷ jumps_by_product ∷ jumps_unless_zero ∷ [])) _ c.in_ok-assert_comparison.ensures.asserted
    c.assert_transfers.ensures.asserted))
