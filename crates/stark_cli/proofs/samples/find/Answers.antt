use Rattle.std.proofs.Common.{sym, ◌∙◌, []}
use Rattle.stark_cli.proofs.Findings.{is_some_of, memory_answered}
use Rattle.stark_cli.proofs.SampleMeaning.{command_found, other_words_found}
use Rattle.stark_cli.specs.SampleRun.{lacks_memory}
use Rattle.stark_cli.proofs.samples.find.Goals as goal

pub returns-in_default-clause-finds : goal.returns-in_default-clause-finds
returns-in_default-clause-finds g c = other_words_found _ _ _ c.named_command.result _ _ c.named_command.ensures c.in_default.not-Some

pub returns-in-Ok-clause-finds : goal.returns-in-Ok-clause-finds
returns-in-Ok-clause-finds g c =
    command_found _ _ _ _ _ c.deref.result.now c.in-Ok.input.items c.in-Some.command _ c.in-Ok.ensures.bytes (sym c.named_command.ensures ∙ c.in-Some.is) c.deref.ensures.value c.answer.ensures

pub returns-in-Err-clause-finds : goal.returns-in-Err-clause-finds
returns-in-Err-clause-finds g c = memory_answered lacks_memory _ _ _ (is_some_of [] (g.R.Source.remaining c.args.reader.now)) _ c.unread_input.ensures.memory
