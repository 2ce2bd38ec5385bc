use Rattle.stark_answers.specs.CheckedAir.{checked_air}
use Rattle.stark_proof.specs.ProofView.{proof_view}
use Rattle.stark_answers.specs.Prove.{json_line}
use Rattle.stark_answers.specs.declared.task.ProofForm.TheVariants.{Json}
use Rattle.stark_answers.proofs.Proved.{is_proved}
use Rattle.stark_commands.specs.Prove.{program_writing}
use Rattle.stark_commands.proofs.Proved.{no_float}
use Rattle.stark_commands.proofs.prove.prove_trace.Goals as goal

pub prove_in_the_clear-answer-requires-clause-stops_nowhere : goal.prove_in_the_clear-answer-requires-clause-stops_nowhere
prove_in_the_clear-answer-requires-clause-stops_nowhere g c = c.clear_config-config.ensures.pcs

pub returns : goal.returns
returns g c = λ height rows.
    let made = c.clear_config-config.ensures in
    is_proved _ _ Json (json_line program_writing) _ (λ proof f line. (line.0, line.1 (no_float (proof_view proof)))) _ (checked_air (g.A.BaseAir.layout c.args.air.now) (g.A.BaseAir.main_next_row_columns c.args.air.now) (g.A.BaseAir.periodic_columns c.args.air.now) (g.A.BaseAir.degree_hint c.args.air.now) (g.A.Air.constraints c.args.air.now) (g.A.BaseAir.preprocessed_trace c.args.air.now) (g.A.BaseAir.preprocessed_next_row_columns c.args.air.now)) _ _ _ _ _ _ _ _ _ height _ _ _ made.pcs made.challenger made.ood_bits made.alpha_bits
    c.finding_of_proof.ensures.finds (c.prove_in_the_clear-answer.ensures height rows)
