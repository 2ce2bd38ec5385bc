use Rattle.stark_statement.specs.StatementView.{statement_view}
use Rattle.stark_service.proofs.ReadSteps.{said_without_statement}
use Rattle.stark_service.proofs.ShowSteps.{none_shown, shown_of_read}
use Rattle.stark_service.proofs.showing.show_over.Goals as goal

pub returns-in-Ok-clause-shown : goal.returns-in-Ok-clause-shown
returns-in-Ok-clause-shown g c = shown_of_read _ _ _ _ (statement_view c.in-Ok.statement) c.in-Ok.ensures c.showing_of.ensures.shown

pub returns-in-Err-clause-shown : goal.returns-in-Err-clause-shown
returns-in-Err-clause-shown g c = said_without_statement _ _ _ _ _ c.as_finding.ensures c.in-Err.ensures

pub returns-in-Err-clause-kind : goal.returns-in-Err-clause-kind
returns-in-Err-clause-kind g c = none_shown _ _ c.as_finding.ensures _ c.in-Err.ensures
