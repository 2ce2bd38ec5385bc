use Rattle.std.proofs.Common.{None, Some, ap, is_some, sym, ◌∙◌}
use Rattle.stark_protocol.proofs.Carried.{carried}
use Rattle.stark_answers.proofs.CompleteSteps.{some_wide}
use Rattle.stark_answers.proofs.VerdictSteps.{answer_of_shape, answer_with_key, of_some}
use Rattle.stark_answers.proofs.keyed.verify_with_key.Goals as goal

pub returns-in_err-check_proof_shape : goal.returns-in_err-check_proof_shape
returns-in_err-check_proof_shape g c =
    answer_of_shape _ c.args.log_rows (g.SC.StarkGenericConfig.config.scheme c.args.config.now) (g.A.BaseAir.preprocessed_trace c.args.air.now) _ _ c.key_size-size.result _ c.key_size-size.ensures
    (g.met.A.BaseAir.as_declared c.args.air.now).preprocessed_width _ (carried _ _ _ c.from_residual.ensures c.in_err-check_proof_shape.ensures.refused) c.from_residual.ensures.0

pub returns-in-Ok-None : goal.returns-in-Ok-None
returns-in-Ok-None g c =
    answer_with_key _ c.args.log_rows (g.SC.StarkGenericConfig.config.scheme c.args.config.now) (g.A.BaseAir.preprocessed_trace c.args.air.now) _ _ None _ (sym c.in-Ok-None.ensures.there ∙ ap is_some c.in-Ok-None.field-0-is) c.verify.ensures.accepted c.verify.ensures.refused

pub returns-in-Ok-Some : goal.returns-in-Ok-Some
returns-in-Ok-Some g c =
    let made = of_some _ c.in-Ok-Some.field-0 (c.in-Ok-Some._data, c.in-Ok-Some.key) c.in-Ok-Some.field-0-is c.in-Ok-Some.ensures.set_up in
    let there = sym (ap is_some c.in-Ok-Some.field-0-is) ∙ c.in-Ok-Some.ensures.there in
    answer_with_key _ c.args.log_rows (g.SC.StarkGenericConfig.config.scheme c.args.config.now) (g.A.BaseAir.preprocessed_trace c.args.air.now) _ _ (Some c.in-Ok-Some.key) _
    (made.0, made.1, c.in-Ok-Some._data, made.2, some_wide _ made.0 made.1 there) c.verify_with_preprocessed.ensures.accepted c.verify_with_preprocessed.ensures.refused

pub setup_preprocessed-requires-clause-within : goal.setup_preprocessed-requires-clause-within
setup_preprocessed-requires-clause-within g c = λ trace declared some. c.requires.within
