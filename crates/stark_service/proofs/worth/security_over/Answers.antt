use Rattle.std.proofs.Common.{refl}
use Rattle.stark_statement.specs.StatementView.{statement_view}
use Rattle.stark_service.specs.Worth.{unsaid}
use Rattle.stark_service.proofs.ReadSteps.{said_of_read, said_without_statement}
use Rattle.stark_service.proofs.worth.security_over.Goals as goal

pub returns-in-Ok : goal.returns-in-Ok
returns-in-Ok g c = said_of_read unsaid _ _ _ (statement_view c.in-Ok.statement) c.in-Ok.ensures c.security_of.ensures

pub returns-in-Err : goal.returns-in-Err
returns-in-Err g c = said_without_statement unsaid _ _ _ _ refl c.in-Err.ensures
