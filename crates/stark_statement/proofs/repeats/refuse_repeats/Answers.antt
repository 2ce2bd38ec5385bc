use Rattle.std.proofs.Common.{◌≡◌, Err, IfSome, IsSome, subst, sym}
use Rattle.std.proofs.lemmas.Bool.{false≢true}
use Rattle.stark_support.proofs.Readings.{json_of-none}
use Rattle.stark_statement.specs.Repeats.{text_json}
use Rattle.stark_statement.specs.StatementJson.{unrepeated}
use Rattle.stark_statement.proofs.RepeatSteps.{value_of_read, with_repeat, without_repeat}
use Rattle.stark_statement.proofs.repeats.refuse_repeats.Goals as goal

pub returns-in_default : goal.returns-in_default
returns-in_default c = λ some. absurd (false≢true (subst IsSome (json_of-none c.args.bytes.now (λ utf8. absurd (c.in_default.ensures.cases.0 utf8))) some))

pub returns-in-Ok-None : goal.returns-in-Ok-None
returns-in-Ok-None c = λ some.
    let same = c.in-Ok.ensures.cases.0 in
    let read = subst (λ t. IsSome (text_json t)) (sym same) (value_of_read c.args.bytes.now some) in
    without_repeat _ _ _ _ same (c.in-Ok-None.ensures read) c.in-Ok-None.field-0-is

pub returns-in-Ok-Some : goal.returns-in-Ok-Some
returns-in-Ok-Some c = λ some.
    let same = c.in-Ok.ensures.cases.0 in
    let read = subst (λ t. IsSome (text_json t)) (sym same) (value_of_read c.args.bytes.now some) in
    subst (λ fault. IfSome fault (λ f. unrepeated c.args.bytes.now ≡ Err f)) (sym c.repeated_name.ensures)
    (with_repeat _ _ _ _ same (c.in-Ok-Some.ensures read) c.in-Ok-Some.repeat c.in-Ok-Some.field-0-is)
