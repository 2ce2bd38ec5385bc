use Rattle.std.proofs.Common.{◌≡◌, ◌∙◌, None, Ok, Err, pos, w32, to_z, of_z, rules, length, subst, sym}
use Rattle.std.specs.Prelude.{nat_le}
use Rattle.stark_answers.specs.Verdict.{end_of, status_of}
use Rattle.voskligan_c.specs.Calls.{key_status}
use Rattle.voskligan_c.specs.Message.{words_of}
use Rattle.voskligan_c.specs.contracts.answers.ProgramProgramAnswers.TheImpl as program
use Rattle.voskligan_c.proofs.Statuses.{accepted_from, file_handed, key_kept, pos_zero}
use Rattle.voskligan_c.proofs.voskligan_key.Goals as goal

pub returns-in-Ok-clause-answer : goal.returns-in-Ok-clause-answer
returns-in-Ok-clause-answer c = (Ok c.in-Ok.bytes.items, (None, (c.in-Ok.ensures.made, search rules, search rules, search rules, search rules)))

pub returns-in-Ok-clause-made : goal.returns-in-Ok-clause-made
returns-in-Ok-clause-made c = λ e.
    let bytes = c.deref.result.now in
    let old = c.args.key.now in
    let counted : c.len.result ≡ length bytes = search rules in
    let file = subst (λ b. program.key_file-value.it c.args.statement.now b) (sym c.deref.ensures.value) c.in-Ok.ensures.key_file in
    let status : to_z w32 (of_z w32 c.hand_over_key.result) ≡ pos (key_status (nat_le (length bytes) (length old))) = search rules in
    file_handed (program.key_file-value.it c.args.statement.now) bytes old _ _ counted c.hand_over_key.ensures.placed file (pos_zero _ _ status e)

pub returns-in-Ok-clause-kept : goal.returns-in-Ok-clause-kept
returns-in-Ok-clause-kept c = λ other.
    let bytes = c.deref.result.now in
    let old = c.args.key.now in
    let status : to_z w32 (of_z w32 c.hand_over_key.result) ≡ pos (key_status (nat_le (length bytes) (length old))) = search rules in
    c.hand_over_key.ensures.placed ∙ key_kept bytes old _ status other

pub returns-in-Err-clause-answer : goal.returns-in-Err-clause-answer
returns-in-Err-clause-answer c = (Err c.in-Err.refused.answer, (words_of c.in-Err.refused.reason, (c.in-Err.ensures.made, search rules, search rules, search rules, search rules)))

pub returns-in-Err-clause-made : goal.returns-in-Err-clause-made
returns-in-Err-clause-made c = λ e.
    let v = c.in-Err.refused.answer in
    let status : to_z w32 (of_z w32 c.from.result) ≡ pos (status_of (end_of v)) = search rules in
    absurd (c.in-Err.ensures.refused (accepted_from v (pos_zero _ _ status e)))
