use Rattle.std.proofs.Common.{◌∙◌, ap, inl, subst, sym, Err}
use Rattle.stark_support.specs.Json.{Gives}
use Rattle.stark_answers.specs.CheckedAir.{checked_air}
use Rattle.stark_commands.specs.Input.{has_shape, numbers_in}
use Rattle.stark_commands.specs.Numbers.{numbers}
use Rattle.stark_commands.proofs.PointSteps.{unread_verdict}
use Rattle.stark_commands.proofs.check.check_air.Goals as goal

pub check-requires-clause-shape : goal.check-requires-clause-shape
check-requires-clause-shape g c = ap (λ s. has_shape s (numbers c.in-Ok-numbers_from.input)) (sym c.in-Ok.ensures) ∙ sym c.if-has_shape.ensures

pub returns-in-Err-Invalid : goal.returns-in-Err-Invalid
returns-in-Err-Invalid g c = λ log_chunks cut.
    inl (unread_verdict (checked_air (g.A.BaseAir.layout c.args.air.now) (g.A.BaseAir.main_next_row_columns c.args.air.now) (g.A.BaseAir.periodic_columns c.args.air.now) (g.A.BaseAir.degree_hint c.args.air.now) (g.A.Air.constraints c.args.air.now) (g.A.BaseAir.preprocessed_trace c.args.air.now) (g.A.BaseAir.preprocessed_next_row_columns c.args.air.now)) log_chunks c.in-Ok.shape c.args.bytes.now c.in-Ok.ensures
    (subst (λ fault. Gives numbers (Err fault) (numbers_in c.in-Ok.shape c.args.bytes.now)) c.in-Err-Invalid.field-0-is c.in-Err-Invalid.ensures.numbers))
