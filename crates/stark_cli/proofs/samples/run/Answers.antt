use Rattle.std.proofs.Common.{sym, subst, ◌∙◌}
use Rattle.std.proofs.lemmas.Bool.{false≢true}
use Rattle.std.specs.Io.KnownBytes.{Keeps}
use Rattle.std.proofs.KnownBytes.{Keeps-refl}
use Rattle.stark_commands.specs.ProveFacts.{proved_accepts_none, proved_begins, proved_line, proved_no_text, proved_satisfies_none}
use Rattle.stark_answers.specs.declared.task.ProofForm.TheVariants.{Json}
use Rattle.stark_cli.specs.SampleRun.{found_proofs_open, lacks_memory}
use Rattle.stark_cli.proofs.Findings.{accepts_or_tells, finding_ends, refused_memory, said_known, said_of, says_known}
use Rattle.stark_cli.proofs.Lines.{accepted_only_known, kind_said, proved_only_known}
use Rattle.stark_cli.proofs.SampleMeaning.{ends_accepted, holds_of_finding, sound_of_finding, stated_traces}
use Rattle.stark_cli.proofs.samples.run.Goals as goal

pub returns-clause-input_failed : goal.returns-clause-input_failed
returns-clause-input_failed g c =
    (λ e. c.find.ensures.failed.0 (c.tell_finding.ensures.input_failed.0 e), λ failed. c.tell_finding.ensures.input_failed.1 (c.find.ensures.failed.1 failed))

pub returns-clause-ends : goal.returns-clause-ends
returns-clause-ends g c = λ read wrote.
    finding_ends lacks_memory tt _ (λ input f obtained. found_proofs_open _ _ _ (λ air i h proved. proved_begins _ _ _ _ _ _ _ _ _ h proved) _ input f obtained) _ _ _ _
    (λ e. false≢true (sym read ∙ c.find.ensures.failed.0 (c.tell_finding.ensures.input_failed.0 e))) (λ e. false≢true (sym wrote ∙ c.tell_finding.ensures.output_failed.0 e))
    (said_of lacks_memory _ (λ f. f) _ c.find.result _ _ _ c.find.ensures.finds c.tell_finding.ensures.says c.tell_finding.ensures.input_failed.1)

pub returns-clause-other_words : goal.returns-clause-other_words
returns-clause-other_words g c = λ none. said_known _ _ _ _ _ (c.find.ensures.other_words none) c.tell_finding.ensures.says

pub returns-clause-says : goal.returns-clause-says
returns-clause-says g c =
    says_known lacks_memory _ _ _ _ _
    (said_of lacks_memory _ (λ f. f) _ c.find.result _ _ _ c.find.ensures.finds c.tell_finding.ensures.says c.tell_finding.ensures.input_failed.1)
    (λ e. subst (λ writer. Keeps (g.W.Sink.contents c.args.writer.now) (g.W.Sink.contents writer)) (sym (c.tell_finding.ensures.silent e)) (Keeps-refl _))

pub returns-clause-accepted : goal.returns-clause-accepted
returns-clause-accepted g c =
    accepted_only_known lacks_memory refused_memory _ (λ input f obtained. kind_said f (found_proofs_open _ _ _ (λ air i h proved. proved_begins _ _ _ _ _ _ _ _ _ h proved) _ input f obtained)) _ (λ input obtained. obtained) _ _ _ _
    (returns-clause-says g c)

pub returns-clause-holds : goal.returns-clause-holds
returns-clause-holds g c =
    accepted_only_known lacks_memory refused_memory _ (λ input f obtained. kind_said f (found_proofs_open _ _ _ (λ air i h proved. proved_begins _ _ _ _ _ _ _ _ _ h proved) _ input f obtained)) _
    (λ input obtained. holds_of_finding _ _ _ (λ air i proved. proved_accepts_none _ _ _ _ _ _ _ _ _ proved) _ input obtained) _ _ _ _ (returns-clause-says g c)

pub returns-clause-sound : goal.returns-clause-sound
returns-clause-sound g c =
    accepted_only_known lacks_memory refused_memory _ (λ input f obtained. kind_said f (found_proofs_open _ _ _ (λ air i h proved. proved_begins _ _ _ _ _ _ _ _ _ h proved) _ input f obtained)) _
    (λ input obtained. sound_of_finding _ _ _ _ input obtained) _ _ _ _ (returns-clause-says g c)

pub returns-clause-proved : goal.returns-clause-proved
returns-clause-proved g c =
    stated_traces _ _ _ _ (λ air i f proved. proved_line _ _ _ _ _ _ _ _ _ f proved) (λ air i f proved is. proved_no_text _ _ _ _ _ _ _ _ _ f proved is) (λ air i proved. proved_satisfies_none _ _ _ _ _ _ _ _ _ proved) _ _ _ _
    (proved_only_known lacks_memory refused_memory _ (λ input f obtained. kind_said f (found_proofs_open _ _ _ (λ air i h proved. proved_begins _ _ _ _ _ _ _ _ _ h proved) _ input f obtained)) Json _
    (λ input bytes front. front) _ _ _ _ (returns-clause-says g c))

pub returns-clause-accepted_end : goal.returns-clause-accepted_end
returns-clause-accepted_end g c = λ end.
    ends_accepted _ _ _ _ (λ air i f proved. proved_line _ _ _ _ _ _ _ _ _ f proved) (λ air i f proved is. proved_no_text _ _ _ _ _ _ _ _ _ f proved is) (λ air i proved. proved_satisfies_none _ _ _ _ _ _ _ _ _ proved) _ _ _ _
    (accepts_or_tells lacks_memory refused_memory _ _ _ _ _
    (said_of lacks_memory _ (λ f. f) _ c.find.result _ _ _ c.find.ensures.finds c.tell_finding.ensures.says c.tell_finding.ensures.input_failed.1)
    end)
