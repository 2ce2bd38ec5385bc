use Rattle.stark_commands.specs.TraceInput.{trace_numbers}
use Rattle.stark_commands.proofs.Proved.{proved_as_read, proved_from}
use Rattle.stark_commands.proofs.prove.prove_input.Goals as goal

pub returns-in-Ok-trace_input_from : goal.returns-in-Ok-trace_input_from
returns-in-Ok-trace_input_from g c = proved_as_read _ _ _ _ _ _ _ _ _ (trace_numbers c.in-Ok-trace_input_from.input) _ c.in-Ok-trace_input_from.ensures.reads (proved_from _ _ _ _ _ _ _ _ _ _ _ c.new.ensures c.prove_read.ensures)
