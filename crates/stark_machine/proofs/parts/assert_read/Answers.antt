use Rattle.std.proofs.Common.{[], ◌∷◌, map}
use Rattle.stark_air.specs.Shift.{shift}
use Rattle.stark_air.proofs.Steps.{all_asserted, begun_asserted, last_asserted}
use Rattle.stark_machine.specs.Machine.{is_index}
use Rattle.stark_machine.specs.Parts.{one_hot}
use Rattle.stark_machine.proofs.parts.assert_read.Goals as goal

pub returns-in_err-eval_on_columns-clause-asserted : goal.returns-in_err-eval_on_columns-clause-asserted
returns-in_err-eval_on_columns-clause-asserted g c =
    let laws = g.met.AB.BaseAirBuilder.emission_laws in
    begun_asserted laws _ _ (map (shift c.args.first) (one_hot g.F.Element.ONE)) ((is_index g.F.PrimeField64.of_number c.args.first c.args.column ∷ [])) _ c.from_residual.ensures.0 c.in_err-eval_on_columns.ensures.asserted

pub returns-clause-asserted : goal.returns-clause-asserted
returns-clause-asserted g c =
    let laws = g.met.AB.BaseAirBuilder.emission_laws in
    all_asserted laws _ _ _ (map (shift c.args.first) (one_hot g.F.Element.ONE)) ((is_index g.F.PrimeField64.of_number c.args.first c.args.column ∷ [])) _ c.in_ok-eval_on_columns.ensures.asserted
    (last_asserted laws _ _ (is_index g.F.PrimeField64.of_number c.args.first c.args.column ∷ []) _ c.assert_index.ensures.asserted c.assert_index.ensures.refused)
