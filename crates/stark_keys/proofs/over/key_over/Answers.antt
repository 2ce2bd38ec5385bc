use Rattle.std.proofs.Common.{Err, refl}
use Rattle.stark_statement.specs.StatementView.{statement_view}
use Rattle.stark_service.proofs.ReadSteps.{none_accepted, said_of_read, said_without_statement}
use Rattle.stark_keys.proofs.over.key_over.Goals as goal

pub returns-in-Ok-clause-made : goal.returns-in-Ok-clause-made
returns-in-Ok-clause-made g c = said_of_read (λ v. Err v) _ _ _ (statement_view c.in-Ok.statement) c.in-Ok.ensures c.key_by.ensures.made

pub returns-in-Err-clause-made : goal.returns-in-Err-clause-made
returns-in-Err-clause-made g c = said_without_statement (λ v. Err v) _ _ _ _ refl c.in-Err.ensures

pub returns-in-Err-clause-refused : goal.returns-in-Err-clause-refused
returns-in-Err-clause-refused g c = λ accepted. none_accepted _ _ c.in-Err.ensures accepted
