use Rattle.std.proofs.Common.{◌∙◌, ap}
use Rattle.stark_statement.specs.StatementView.{statement_view}
use Rattle.stark_service.proofs.FoundRows.{has_no_rows_found, has_rows_found, said_with_rows, said_without_rows}
use Rattle.stark_service.proofs.StatementSteps.{reads_declared, same_declared, tree_checked}
use Rattle.stark_service.proofs.StatementsSound.{taken_soundly}
use Rattle.stark_service.proofs.judging.verify_with.Goals as goal

pub returns-in-Ok-Some-clause-verdict : goal.returns-in-Ok-Some-clause-verdict
returns-in-Ok-Some-clause-verdict g c =
    let most = c.log_max_trace_height-greatest.ensures ∙ ap (λ p. g.SC.Pcs.Pcs.scheme.log_max_trace_height p) c.pcs.ensures in
    let d = c.args.statement.now.air.declaration in
    let l = c.args.statement.now.air.list in
    said_with_rows _ _ _ (statement_view c.args.statement.now) _ (reads_declared d l c.args.statement.now.air.without_fault) _ c.in-Ok-Some.log_rows
    (has_rows_found _ _ most (tree_checked d l) _ (same_declared d l) c.in-Ok-Some.field-0 c.in-Ok-Some.log_rows c.in-Ok-Some.field-0-is c.in-Ok-Some.ensures.height c.in-Ok-Some.ensures.within)
    c.verify_with_rows.ensures

pub returns-in-Ok-Some-clause-sound : goal.returns-in-Ok-Some-clause-sound
returns-in-Ok-Some-clause-sound g c = λ accepted.
    let most = c.log_max_trace_height-greatest.ensures ∙ ap (λ p. g.SC.Pcs.Pcs.scheme.log_max_trace_height p) c.pcs.ensures in
    let d = c.args.statement.now.air.declaration in
    let l = c.args.statement.now.air.list in
    taken_soundly _ g.met.SC.Challenge.Field.field_laws _ _ (statement_view c.args.statement.now) _ _ (said_with_rows _ _ _ (statement_view c.args.statement.now) _ (reads_declared d l c.args.statement.now.air.without_fault) _ c.in-Ok-Some.log_rows
    (has_rows_found _ _ most (tree_checked d l) _ (same_declared d l) c.in-Ok-Some.field-0 c.in-Ok-Some.log_rows c.in-Ok-Some.field-0-is c.in-Ok-Some.ensures.height c.in-Ok-Some.ensures.within)
    c.verify_with_rows.ensures) accepted

pub returns-in-Ok-None-clause-verdict : goal.returns-in-Ok-None-clause-verdict
returns-in-Ok-None-clause-verdict g c =
    let most = c.log_max_trace_height-greatest.ensures ∙ ap (λ p. g.SC.Pcs.Pcs.scheme.log_max_trace_height p) c.pcs.ensures in
    let d = c.args.statement.now.air.declaration in
    let l = c.args.statement.now.air.list in
    said_without_rows _ _ _ (statement_view c.args.statement.now) _ (reads_declared d l c.args.statement.now.air.without_fault) _
    (has_no_rows_found _ _ most (tree_checked d l) _ (same_declared d l) c.in-Ok-None.field-0 c.in-Ok-None.field-0-is c.in-Ok-None.ensures.none) c.unfit_rows.ensures

pub returns-in-Ok-None-clause-sound : goal.returns-in-Ok-None-clause-sound
returns-in-Ok-None-clause-sound g c = λ accepted.
    let most = c.log_max_trace_height-greatest.ensures ∙ ap (λ p. g.SC.Pcs.Pcs.scheme.log_max_trace_height p) c.pcs.ensures in
    let d = c.args.statement.now.air.declaration in
    let l = c.args.statement.now.air.list in
    taken_soundly _ g.met.SC.Challenge.Field.field_laws _ _ (statement_view c.args.statement.now) _ _ (said_without_rows _ _ _ (statement_view c.args.statement.now) _ (reads_declared d l c.args.statement.now.air.without_fault) _
    (has_no_rows_found _ _ most (tree_checked d l) _ (same_declared d l) c.in-Ok-None.field-0 c.in-Ok-None.field-0-is c.in-Ok-None.ensures.none) c.unfit_rows.ensures) accepted
