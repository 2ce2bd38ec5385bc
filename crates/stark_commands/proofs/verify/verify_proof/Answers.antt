use Rattle.stark_answers.specs.CheckedAir.{checked_air}
use Rattle.stark_answers.proofs.VerdictSteps.{is_verdict}
use Rattle.stark_commands.proofs.verify.verify_proof.Goals as goal

pub verify_in_the_clear-answer-requires-clause-stops_nowhere : goal.verify_in_the_clear-answer-requires-clause-stops_nowhere
verify_in_the_clear-answer-requires-clause-stops_nowhere g c = c.clear_config-config.ensures.pcs

pub returns : goal.returns
returns g c =
    let made = c.clear_config-config.ensures in
    is_verdict _ _ (checked_air (g.A.BaseAir.layout c.args.air.now) (g.A.BaseAir.main_next_row_columns c.args.air.now) (g.A.BaseAir.periodic_columns c.args.air.now) (g.A.BaseAir.degree_hint c.args.air.now) (g.A.Air.constraints c.args.air.now) (g.A.BaseAir.preprocessed_trace c.args.air.now) (g.A.BaseAir.preprocessed_next_row_columns c.args.air.now)) _ _ _ _ _ _ _ _ _ _ _ _ c.verdict_of.ensures made.pcs made.challenger made.ood_bits made.alpha_bits c.verify_in_the_clear-answer.ensures
