use Rattle.stark_statement.specs.StatementView.{statement_view}
use Rattle.stark_answers.specs.declared.finding.Finding.TheVariants as finding
use Rattle.stark_service.proofs.ReadSteps.{holds_of_read, said_of_read, said_without_statement}
use Rattle.stark_service.proofs.UnreadFindings.{unread_of_trace, verdict_no_proof}
use Rattle.stark_service.proofs.over.answer_over.Goals as goal

pub returns-in-Ok-clause-finds : goal.returns-in-Ok-clause-finds
returns-in-Ok-clause-finds g c = said_of_read (λ v. finding.Verdict v) _ _ _ (statement_view c.in-Ok.statement) c.in-Ok.ensures c.answer_by.ensures.finds

pub returns-in-Ok-clause-proof : goal.returns-in-Ok-clause-proof
returns-in-Ok-clause-proof g c = λ form proof. holds_of_read _ _ (statement_view c.in-Ok.statement) c.in-Ok.ensures.0 (c.answer_by.ensures.proof form proof)

pub returns-in-Err-clause-finds : goal.returns-in-Err-clause-finds
returns-in-Err-clause-finds g c = said_without_statement (λ v. finding.Verdict v) _ _ _ _ c.as_finding.ensures c.in-Err.ensures

pub returns-in-Err-clause-kind : goal.returns-in-Err-clause-kind
returns-in-Err-clause-kind g c = unread_of_trace c.args.asked _ _ _ c.as_finding.ensures c.in-Err.ensures

pub returns-in-Err-clause-proof : goal.returns-in-Err-clause-proof
returns-in-Err-clause-proof g c = λ form proof. absurd (verdict_no_proof _ _ c.as_finding.ensures form proof)

pub returns-in-Ok-clause-accepted : goal.returns-in-Ok-clause-accepted
returns-in-Ok-clause-accepted g c = λ form is proof. holds_of_read _ _ (statement_view c.in-Ok.statement) c.in-Ok.ensures.0 (c.in-Ok.ensures.1, c.answer_by.ensures.accepted form is proof)

pub returns-in-Err-clause-accepted : goal.returns-in-Err-clause-accepted
returns-in-Err-clause-accepted g c = λ form is proof. absurd (verdict_no_proof _ _ c.as_finding.ensures form proof)
