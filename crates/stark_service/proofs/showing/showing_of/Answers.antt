use Rattle.stark_statement.specs.StatementView.{statement_view}
use Rattle.stark_service.specs.Showing.{shown_of_showing}
use Rattle.stark_service.proofs.showing.showing_of.Goals as goal

pub returns-in-Ok-clause-kind : goal.returns-in-Ok-clause-kind
returns-in-Ok-clause-kind g c = shown_of_showing _ _ (statement_view c.args.statement.now) _ c.in-Ok.ensures
