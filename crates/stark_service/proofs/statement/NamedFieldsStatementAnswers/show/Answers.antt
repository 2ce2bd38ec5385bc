use Rattle.stark_answers.specs.declared.finding.Finding.TheVariants as finding
use Rattle.stark_service.proofs.ReadSteps.{said_of_configured, said_unconfigured}
use Rattle.stark_service.proofs.ShowSteps.{unconfigured_shown}
use Rattle.stark_service.proofs.statement.NamedFieldsStatementAnswers.show.Goals as goal

pub returns-in-Ok-clause-shown : goal.returns-in-Ok-clause-shown
returns-in-Ok-clause-shown c = said_of_configured (λ v. finding.Verdict v) _ _ _ _ _ c.in-Ok.ensures.0 c.in-Ok.ensures.1 c.show_value.ensures.shown

pub returns-in-Err-clause-shown : goal.returns-in-Err-clause-shown
returns-in-Err-clause-shown c = said_unconfigured (λ v. finding.Verdict v) _ _ _ _ c.as_finding.ensures c.in-Err.ensures

pub returns-in-Err-clause-kind : goal.returns-in-Err-clause-kind
returns-in-Err-clause-kind c = unconfigured_shown _ _ c.as_finding.ensures _ c.in-Err.ensures
