use Rattle.std.proofs.Common.{sym, subst, ◌∙◌}
use Rattle.std.proofs.lemmas.Bool.{false≢true}
use Rattle.std.specs.Io.KnownBytes.{Keeps}
use Rattle.std.proofs.KnownBytes.{Keeps-refl}
use Rattle.stark_cli.specs.StatementRun.{no_memory}
use Rattle.stark_cli.proofs.AcceptedSteps.{accepted_written}
use Rattle.stark_cli.proofs.Findings.{accepts_or_tells, none_failed, said_of, says_known, unjudged_memory}
use Rattle.stark_cli.proofs.Lines.{accepted_only_known, proved_only_known}
use Rattle.stark_cli.proofs.StatementMeaning.{accepts, accepts_soundly, ends_under, ends_well, kinds, stated_traces}
use Rattle.stark_cli.proofs.statements.run.Goals as goal

pub returns-clause-input_failed : goal.returns-clause-input_failed
returns-clause-input_failed g c =
    (λ e. c.find-finding.ensures.failed.0 (c.tell_finding.ensures.input_failed.0 e), λ failed. c.tell_finding.ensures.input_failed.1 (c.find-finding.ensures.failed.1 failed))

pub returns-clause-ends : goal.returns-clause-ends
returns-clause-ends g c = λ first behind wrote.
    ends_under _ _ _ _ _ _ _ _ _ _ _ (λ e. none_failed _ _ first behind (c.find-finding.ensures.failed.0 (c.tell_finding.ensures.input_failed.0 e))) (λ e. false≢true (sym wrote ∙ c.tell_finding.ensures.output_failed.0 e))
    (said_of no_memory _ (λ report. report.answer) _ c.find-finding.result _ _ _ c.find-finding.ensures.finds c.tell_finding.ensures.says c.tell_finding.ensures.input_failed.1)

pub returns-clause-says : goal.returns-clause-says
returns-clause-says g c =
    says_known no_memory _ _ _ _ _
    (said_of no_memory _ (λ report. report.answer) _ c.find-finding.result _ _ _ c.find-finding.ensures.finds c.tell_finding.ensures.says c.tell_finding.ensures.input_failed.1)
    (λ e. subst (λ writer. Keeps (g.W.Sink.contents c.args.writer.now) (g.W.Sink.contents writer)) (sym (c.tell_finding.ensures.silent e)) (Keeps-refl _))

pub returns-clause-accepted : goal.returns-clause-accepted
returns-clause-accepted g c =
    accepted_only_known no_memory unjudged_memory _ (λ input f obtained. kinds _ _ _ _ _ _ _ input f obtained) _
    (λ input obtained. accepts _ _ _ _ _ _ _ input obtained) _ _ _ _ (returns-clause-says g c)

pub returns-clause-sound : goal.returns-clause-sound
returns-clause-sound g c =
    accepted_only_known no_memory unjudged_memory _ (λ input f obtained. kinds _ _ _ _ _ _ _ input f obtained) _
    (λ input obtained. accepts_soundly _ _ _ _ _ _ _ input obtained) _ _ _ _ (returns-clause-says g c)

pub returns-clause-proved : goal.returns-clause-proved
returns-clause-proved g c = λ form.
    stated_traces _ _ _ _ _ _ form _ _ _ _
    (proved_only_known no_memory unjudged_memory _ (λ input f obtained. kinds _ _ _ _ _ _ _ input f obtained) form _
    (λ input bytes front. front) _ _ _ _ (returns-clause-says g c))

pub returns-clause-accepted_end : goal.returns-clause-accepted_end
returns-clause-accepted_end g c = λ end.
    ends_well _ _ _ _ _ _ _ _ _ _
    (accepts_or_tells no_memory unjudged_memory _ _ _ _ _
    (said_of no_memory _ (λ report. report.answer) _ c.find-finding.result _ _ _ c.find-finding.ensures.finds c.tell_finding.ensures.says c.tell_finding.ensures.input_failed.1)
    end)

pub returns-clause-proof : goal.returns-clause-proof
returns-clause-proof g c = λ end.
    accepted_written _ _ _ _ _ _ _ c.args.verb _ (λ report. report.answer) c.tell_finding.result.end _ _ c.find-finding.result c.find-finding.ensures.finds c.find-finding.ensures.accepted c.tell_finding.ensures.says c.tell_finding.ensures.input_failed.1 end
