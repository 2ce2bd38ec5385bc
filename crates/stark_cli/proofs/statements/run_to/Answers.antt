use Rattle.std.proofs.Common.{sym, subst}
use Rattle.std.specs.Io.KnownBytes.{Keeps}
use Rattle.std.proofs.KnownBytes.{Keeps-refl}
use Rattle.stark_cli.specs.StatementRun.{no_memory}
use Rattle.stark_cli.proofs.AcceptedSteps.{accepted_delivered}
use Rattle.stark_cli.proofs.Delivery.{delivers, ends_answered}
use Rattle.stark_cli.proofs.Findings.{answer_said, proof_said, said_found, says_known}
use Rattle.stark_cli.proofs.statements.run_to.Goals as goal

pub returns-clause-input_failed : goal.returns-clause-input_failed
returns-clause-input_failed g c =
    (λ e. c.find-finding.ensures.failed.0 (c.deliver_finding.ensures.input_failed.0 e), λ failed. c.deliver_finding.ensures.input_failed.1 (c.find-finding.ensures.failed.1 failed))

pub returns-clause-delivered : goal.returns-clause-delivered
returns-clause-delivered g c = λ is.
    delivers _ _ _ _ _ _ _ _ _ _ _ (c.deliver_finding.ensures.read is)
    (proof_said no_memory _ (λ report. report.answer) _ c.find-finding.result _ _ _ _ c.find-finding.ensures.finds c.deliver_finding.ensures.proof c.deliver_finding.ensures.input_failed.1 c.deliver_finding.ensures.read is)

pub returns-clause-says : goal.returns-clause-says
returns-clause-says g c = λ other.
    says_known no_memory _ _ _ _ _
    (said_found no_memory _ _ _ _ _
    (answer_said no_memory _ (λ report. report.answer) _ c.find-finding.result _ _ _ _ c.find-finding.ensures.finds c.deliver_finding.ensures.answer c.deliver_finding.ensures.input_failed.1 other))
    (λ e. subst (λ writer. Keeps (g.W.Sink.contents c.args.writer.now) (g.W.Sink.contents writer)) (sym (c.deliver_finding.ensures.silent e)) (Keeps-refl _))

pub returns-clause-ends : goal.returns-clause-ends
returns-clause-ends g c = λ other end.
    ends_answered _ _ _ _ _ _ _ _ _ _ _
    (answer_said no_memory _ (λ report. report.answer) _ c.find-finding.result _ _ _ _ c.find-finding.ensures.finds c.deliver_finding.ensures.answer c.deliver_finding.ensures.input_failed.1 other)
    end

pub returns-clause-proof : goal.returns-clause-proof
returns-clause-proof g c = λ is end.
    accepted_delivered _ _ _ _ _ _ _ c.args.verb _ (λ report. report.answer) c.deliver_finding.result.ended.end _ _ _ is c.find-finding.result c.find-finding.ensures.finds c.find-finding.ensures.accepted c.deliver_finding.ensures.proof c.deliver_finding.ensures.input_failed.1 end
