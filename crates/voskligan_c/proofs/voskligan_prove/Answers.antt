use Rattle.std.proofs.Common.{◌≡◌, pos, w32, to_z, of_z, refl, rules, length}
use Rattle.stark_answers.specs.declared.task.ProofForm.TheVariants.{Json}
use Rattle.voskligan_c.specs.Calls.{handed_of, status_of_call}
use Rattle.voskligan_c.specs.Message.{words_of}
use Rattle.voskligan_c.proofs.Statuses.{line_placed, pos_zero}
use Rattle.voskligan_c.specs.contracts.answers.ProgramProgramAnswers.TheImpl as program
use Rattle.voskligan_c.proofs.voskligan_prove.Goals as goal

pub returns-clause-proved : goal.returns-clause-proved
returns-clause-proved c = λ e.
    let f = c.prove_statement-report.result.answer in
    let status : to_z w32 (of_z w32 c.status.result) ≡ pos (status_of_call (handed_of f (length c.args.proof.now)) f) = search rules in
    let s = c.args.statement.now in
    let t = c.args.trace.now in
    rw (c.hand_over-handed.ensures.needed, c.hand_over-handed.ensures.placed)
    (line_placed (program.proof_line-value.it s t) f c.args.proof.now c.prove_statement-report.ensures.kind (c.prove_statement-report.ensures.proof Json) (pos_zero _ _ status e))

pub returns-clause-accepted : goal.returns-clause-accepted
returns-clause-accepted c = λ e.
    let f = c.prove_statement-report.result.answer in
    let status : to_z w32 (of_z w32 c.status.result) ≡ pos (status_of_call (handed_of f (length c.args.proof.now)) f) = search rules in
    rw (c.hand_over-handed.ensures.needed, c.hand_over-handed.ensures.placed)
    (line_placed (program.accepts-value.it c.args.statement.now) f c.args.proof.now c.prove_statement-report.ensures.kind (c.prove_statement-report.ensures.accepted Json refl) (pos_zero _ _ status e))

pub returns-clause-answer : goal.returns-clause-answer
returns-clause-answer c =
    (c.prove_statement-report.result.answer, (words_of c.prove_statement-report.result.reason, (c.prove_statement-report.ensures.finds, search rules, search rules, search rules, search rules)))
