use Rattle.std.proofs.Common.{◌≡◌, pos, w32, to_z, of_z, rules}
use Rattle.stark_answers.specs.Finding.{finding_end}
use Rattle.stark_answers.specs.Verdict.{status_of}
use Rattle.stark_answers.specs.declared.task.TraceTask.TheVariants.{Check}
use Rattle.voskligan_c.specs.Message.{words_of}
use Rattle.voskligan_c.proofs.Statuses.{pos_zero, satisfied_from}
use Rattle.voskligan_c.specs.contracts.answers.ProgramProgramAnswers.TheImpl as program
use Rattle.voskligan_c.proofs.voskligan_check.Goals as goal

pub returns-clause-satisfied : goal.returns-clause-satisfied
returns-clause-satisfied c = λ e.
    let f = c.check_statement-report.result.answer in
    let status : to_z w32 (of_z w32 c.from.result) ≡ pos (status_of (finding_end f)) = search rules in
    let s = c.args.statement.now in
    let t = c.args.trace.now in
    satisfied_from (program.finds-value.it Check s t) f c.check_statement-report.ensures.finds c.check_statement-report.ensures.kind (pos_zero _ _ status e)

pub returns-clause-answer : goal.returns-clause-answer
returns-clause-answer c =
    (c.check_statement-report.result.answer, (words_of c.check_statement-report.result.reason, (c.check_statement-report.ensures.finds, search rules, search rules)))
