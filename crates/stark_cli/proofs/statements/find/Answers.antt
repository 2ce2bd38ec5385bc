use Rattle.std.proofs.Common.{[], refl}
use Rattle.stark_cli.proofs.AcceptedSteps.{memory_accepted}
use Rattle.stark_cli.proofs.Findings.{both_inputs, is_some_of, memory_reported}
use Rattle.stark_cli.proofs.StatementMeaning.{pair_found}
use Rattle.stark_cli.specs.Running.{both}
use Rattle.stark_cli.specs.StatementRun.{no_memory}
use Rattle.stark_cli.proofs.statements.find.Goals as goal

pub returns-clause-finds : goal.returns-clause-finds
returns-clause-finds g c =
    pair_found _ _ _ _ _ _ c.args.verb _ (c.in-Ok.bytes.items, c.in-Ok-read_to_end.bytes.items) (c.in-Ok.bytes.items, c.in-Ok-read_to_end.bytes.items) _
    (both_inputs _ _ _ _ c.in-Ok.ensures.bytes c.in-Ok-read_to_end.ensures.bytes) refl c.answer.ensures.finds

pub returns-in-Err-clause-finds : goal.returns-in-Err-clause-finds
returns-in-Err-clause-finds g c = memory_reported no_memory _ _ _ (is_some_of ([], []) (both (g.S.Source.remaining c.args.statement.now) (g.R.Source.remaining c.args.second.now))) _ c.unread.ensures.memory

pub returns-in-Err-read_to_end-clause-finds : goal.returns-in-Err-read_to_end-clause-finds
returns-in-Err-read_to_end-clause-finds g c =
    memory_reported no_memory _ _ _ (is_some_of ([], []) (both (g.S.Source.remaining c.args.statement.now) (g.R.Source.remaining c.args.second.now))) _ c.unread-in-Err-read_to_end.ensures.memory

pub returns-clause-accepted : goal.returns-clause-accepted
returns-clause-accepted g c = ((c.in-Ok.bytes.items, c.in-Ok-read_to_end.bytes.items), both_inputs _ _ _ _ c.in-Ok.ensures.bytes c.in-Ok-read_to_end.ensures.bytes, c.answer.ensures.accepted)

pub returns-in-Err-clause-accepted : goal.returns-in-Err-clause-accepted
returns-in-Err-clause-accepted g c =
    memory_accepted g.A.StatementAnswers.accepts c.args.verb _ _ (is_some_of ([], []) (both (g.S.Source.remaining c.args.statement.now) (g.R.Source.remaining c.args.second.now))) (λ report. report.answer) _ c.unread.ensures.memory

pub returns-in-Err-read_to_end-clause-accepted : goal.returns-in-Err-read_to_end-clause-accepted
returns-in-Err-read_to_end-clause-accepted g c =
    memory_accepted g.A.StatementAnswers.accepts c.args.verb _ _ (is_some_of ([], []) (both (g.S.Source.remaining c.args.statement.now) (g.R.Source.remaining c.args.second.now))) (λ report. report.answer) _ c.unread-in-Err-read_to_end.ensures.memory
