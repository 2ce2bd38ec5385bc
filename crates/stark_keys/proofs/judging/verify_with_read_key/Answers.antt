use Rattle.std.proofs.Common.{◌≡◌, ◌∙◌, true, false, sym}
use Rattle.stark_statement.specs.StatementView.{statement_view}
use Rattle.stark_service.proofs.StatementSteps.{reads_declared}
use Rattle.stark_keys.proofs.JudgingSteps.{with_key_of_another, with_key_read, with_unread_key}
use Rattle.stark_keys.proofs.judging.verify_with_read_key.Goals as goal

pub returns-in-Err : goal.returns-in-Err
returns-in-Err g c =
    let air = c.args.statement.now.air in
    with_unread_key _ _ _ (statement_view c.args.statement.now) (reads_declared air.declaration air.list air.without_fault) _ _ _ _ c.in-Err.ensures.decoded c.unread_key.ensures

pub returns-then-are_same : goal.returns-then-are_same
returns-then-are_same g c =
    let air = c.args.statement.now.air in
    with_key_read _ _ _ (statement_view c.args.statement.now) (reads_declared air.declaration air.list air.without_fault) _ _ c.in-Ok.given _ c.in-Ok.ensures.decoded
    (c.are_same.ensures.0 c.if-are_same.true ∙ c.requires.digest) c.verify_with_key.ensures

pub returns : goal.returns
returns g c =
    let air = c.args.statement.now.air in
    with_key_of_another _ _ _ (statement_view c.args.statement.now) (reads_declared air.declaration air.list air.without_fault) _ _ c.in-Ok.given _ c.in-Ok.ensures.decoded
    (λ whose. absurd (let clash : true ≡ false = sym (c.are_same.ensures.1 (whose ∙ sym c.requires.digest)) ∙ c.if-are_same.false in cc)) c.key_of_another.ensures
