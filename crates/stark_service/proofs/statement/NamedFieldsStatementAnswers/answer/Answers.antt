use Rattle.stark_answers.specs.declared.finding.Finding.TheVariants as finding
use Rattle.stark_service.proofs.ReadSteps.{holds_of_bytes, said_of_configured, said_unconfigured}
use Rattle.stark_service.proofs.ShowSteps.{unconfigured_stated, verdict_proves_none}
use Rattle.stark_service.proofs.statement.NamedFieldsStatementAnswers.answer.Goals as goal

pub returns-in-Ok-clause-finds : goal.returns-in-Ok-clause-finds
returns-in-Ok-clause-finds g c = said_of_configured (λ v. finding.Verdict v) _ _ _ _ _ c.in-Ok.ensures.0 c.in-Ok.ensures.1 c.answer_value.ensures.finds

pub returns-in-Ok-clause-proof : goal.returns-in-Ok-clause-proof
returns-in-Ok-clause-proof g c = λ form proof. holds_of_bytes _ _ _ _ c.in-Ok.ensures.0 c.in-Ok.ensures.1 (c.answer_value.ensures.proof form proof)

pub returns-in-Err-clause-finds : goal.returns-in-Err-clause-finds
returns-in-Err-clause-finds g c = said_unconfigured (λ v. finding.Verdict v) _ _ _ _ c.as_finding.ensures c.in-Err.ensures

pub returns-in-Err-clause-kind : goal.returns-in-Err-clause-kind
returns-in-Err-clause-kind g c = unconfigured_stated _ _ c.as_finding.ensures _ _ c.in-Err.ensures

pub returns-in-Err-clause-proof : goal.returns-in-Err-clause-proof
returns-in-Err-clause-proof g c = λ form proof. absurd (verdict_proves_none _ _ c.as_finding.ensures form proof)

pub returns-in-Ok-clause-accepted : goal.returns-in-Ok-clause-accepted
returns-in-Ok-clause-accepted g c = λ form is proof. holds_of_bytes _ _ _ _ c.in-Ok.ensures.0 c.in-Ok.ensures.1 (c.answer_value.ensures.accepted form is proof)

pub returns-in-Err-clause-accepted : goal.returns-in-Err-clause-accepted
returns-in-Err-clause-accepted g c = λ form is proof. absurd (verdict_proves_none _ _ c.as_finding.ensures form proof)
