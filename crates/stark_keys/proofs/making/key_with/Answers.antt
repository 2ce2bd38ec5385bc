use Rattle.std.proofs.Common.{◌∙◌, ap}
use Rattle.stark_statement.specs.StatementView.{statement_view}
use Rattle.stark_service.proofs.FoundRows.{has_no_rows_found}
use Rattle.stark_service.proofs.StatementSteps.{same_declared, tree_checked}
use Rattle.stark_keys.proofs.MakingSteps.{file_is_made, none_is_made}
use Rattle.stark_keys.proofs.making.key_with.Goals as goal

pub returns-in-Ok-clause-made : goal.returns-in-Ok-clause-made
returns-in-Ok-clause-made g c = file_is_made _ _ (statement_view c.args.statement.now) _ c.in-Ok.ensures

pub returns-in-Ok-None-clause-made : goal.returns-in-Ok-None-clause-made
returns-in-Ok-None-clause-made g c =
    let most = c.log_max_trace_height-greatest.ensures ∙ ap (λ p. g.SC.Pcs.Pcs.scheme.log_max_trace_height p) c.pcs.ensures in
    let d = c.args.statement.now.air.declaration in
    let l = c.args.statement.now.air.list in
    none_is_made _ _ (statement_view c.args.statement.now) _
    (has_no_rows_found _ _ most (tree_checked d l) _ (same_declared d l) c.in-Ok-None.field-0 c.in-Ok-None.field-0-is c.in-Ok-None.ensures.none) c.unfit_rows.ensures
