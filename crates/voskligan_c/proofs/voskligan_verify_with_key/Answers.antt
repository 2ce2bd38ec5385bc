use Rattle.std.proofs.Common.{◌≡◌, pos, w32, to_z, of_z, rules}
use Rattle.stark_answers.specs.Verdict.{end_of, status_of}
use Rattle.voskligan_c.specs.Message.{words_of}
use Rattle.voskligan_c.proofs.Statuses.{accepted_from, pos_zero}
use Rattle.voskligan_c.proofs.voskligan_verify_with_key.Goals as goal

pub returns-clause-answer : goal.returns-clause-answer
returns-clause-answer c =
    (c.verify_statement_with_key-judged.result.answer, (words_of c.verify_statement_with_key-judged.result.reason, (c.verify_statement_with_key-judged.ensures.verdict, search rules, search rules)))

pub returns-clause-sound : goal.returns-clause-sound
returns-clause-sound c = λ of_key e.
    let v = c.verify_statement_with_key-judged.result.answer in
    let status : to_z w32 (of_z w32 c.from.result) ≡ pos (status_of (end_of v)) = search rules in
    c.verify_statement_with_key-judged.ensures.sound (accepted_from v (pos_zero _ _ status e)) of_key
