use Rattle.std.proofs.Common.{subst}
use Rattle.stark_statement.specs.Limits.{IsWithin, view_of}
use Rattle.stark_statement.specs.StatementView.{statement_view}
use Rattle.stark_service.proofs.StatementSteps.{large_statement, unread_statement}
use Rattle.stark_service.proofs.reading.read_statement.Goals as goal

pub returns-in-Err : goal.returns-in-Err
returns-in-Err g c = unread_statement _ _ _ c.in-Err.ensures.decoded c.unread_statement.ensures

pub returns-in-Err-check : goal.returns-in-Err-check
returns-in-Err-check g c =
    large_statement _ (statement_view c.in-Ok.statement) _ c.in-Ok.ensures.decoded
    (subst (λ limits. IsWithin limits (view_of c.in-Ok.statement.air) → ⊥) c.under.ensures c.in-Err-check.ensures.too_large)
    c.air_too_large.ensures
