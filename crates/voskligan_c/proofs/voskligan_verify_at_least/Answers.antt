use Rattle.std.proofs.Common.{◌≡◌, pos, w32, to_z, of_z, rules, refl, inl, None}
use Rattle.stark_answers.specs.Verdict.{status_of}
use Rattle.stark_answers.specs.declared.verdict.Verdict.TheVariants as verdict
use Rattle.stark_service.specs.Floor.{floor_end}
use Rattle.stark_service.specs.declared.floor.FloorVerdict.TheVariants.{Judged}
use Rattle.voskligan_c.specs.Message.{words_of}
use Rattle.voskligan_c.proofs.Statuses.{accepted_over_floor, pos_zero}
use Rattle.voskligan_c.proofs.voskligan_verify_at_least.Goals as goal

pub returns-in_default-clause-answer : goal.returns-in_default-clause-answer
returns-in_default-clause-answer c = (Judged verdict.OutOfMemory, (None, (inl refl, search rules, search rules)))

pub returns-clause-answer : goal.returns-clause-answer
returns-clause-answer c =
    (c.verify_at_least-said.result.answer, (words_of c.verify_at_least-said.result.reason, (c.verify_at_least-said.ensures.verdict, search rules, search rules)))

pub returns-clause-sound : goal.returns-clause-sound
returns-clause-sound c = λ e.
    let a = c.verify_at_least-said.result.answer in
    let status : to_z w32 (of_z w32 c.from-2.result) ≡ pos (status_of (floor_end a)) = search rules in
    c.verify_at_least-said.ensures.sound (accepted_over_floor a (pos_zero _ _ status e))
