use Rattle.std.proofs.Common.{refl}
use Rattle.stark_statement.specs.StatementView.{statement_view}
use Rattle.stark_service.proofs.ReadSteps.{holds_of_read, none_accepted, said_of_read, said_without_statement}
use Rattle.stark_keys.proofs.ReadSteps.{made_of_read}
use Rattle.stark_keys.proofs.over.verify_over.Goals as goal

pub returns-in-Ok-clause-verdict : goal.returns-in-Ok-clause-verdict
returns-in-Ok-clause-verdict g c = said_of_read (λ v. v) _ _ _ (statement_view c.in-Ok.statement) c.in-Ok.ensures c.verify_by.ensures.verdict

pub returns-in-Ok-clause-owned : goal.returns-in-Ok-clause-owned
returns-in-Ok-clause-owned g c = λ of_key.
    said_of_read (λ v. v) _ _ _ (statement_view c.in-Ok.statement) c.in-Ok.ensures
    (c.verify_by.ensures.owned (made_of_read _ _ (statement_view c.in-Ok.statement) _ c.in-Ok.ensures.0 of_key))

pub returns-in-Ok-clause-sound : goal.returns-in-Ok-clause-sound
returns-in-Ok-clause-sound g c = λ accepted of_key.
    holds_of_read _ _ (statement_view c.in-Ok.statement) c.in-Ok.ensures.0
    (c.verify_by.ensures.sound accepted (made_of_read _ _ (statement_view c.in-Ok.statement) _ c.in-Ok.ensures.0 of_key))

pub returns-in-Err-clause-verdict : goal.returns-in-Err-clause-verdict
returns-in-Err-clause-verdict g c = said_without_statement (λ v. v) _ _ _ _ refl c.in-Err.ensures

pub returns-in-Err-clause-owned : goal.returns-in-Err-clause-owned
returns-in-Err-clause-owned g c = λ of_key. said_without_statement (λ v. v) _ _ _ _ refl c.in-Err.ensures

pub returns-in-Err-clause-sound : goal.returns-in-Err-clause-sound
returns-in-Err-clause-sound g c = λ accepted of_key. absurd (none_accepted _ _ c.in-Err.ensures accepted)
