use Rattle.std.proofs.Common.{map}
use Rattle.stark_air.specs.Shift.{shift}
use Rattle.stark_air.proofs.Steps.{all_asserted, begun_asserted}
use Rattle.stark_samples.specs.Samples.{counter_constraints}
use Rattle.stark_samples.proofs.pair.PairAirAir.eval.Goals as goal

pub returns-in_err-eval_on_columns-clause-asserted : goal.returns-in_err-eval_on_columns-clause-asserted
returns-in_err-eval_on_columns-clause-asserted g c =
    let counter = counter_constraints g.F.Element.ONE in
    begun_asserted g.met.AB.BaseAirBuilder.emission_laws _ _ (map (shift 0) counter) (map (shift 1) counter) _ c.from_residual.ensures.0 c.in_err-eval_on_columns.ensures.asserted

pub returns-clause-asserted : goal.returns-clause-asserted
returns-clause-asserted g c =
    let counter = counter_constraints g.F.Element.ONE in
    all_asserted g.met.AB.BaseAirBuilder.emission_laws _ _ _ (map (shift 0) counter) (map (shift 1) counter) _ c.in_ok-eval_on_columns.ensures.asserted c.eval_on_columns-2.ensures.asserted
