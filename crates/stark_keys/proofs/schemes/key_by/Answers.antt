use Rattle.stark_clear.specs.ClearScheme.{clear_pcs}
use Rattle.stark_statement.specs.StatementView.{statement_view}
use Rattle.stark_keys.proofs.NumbersSteps.{made_by_numbers, made_in_the_clear}
use Rattle.stark_keys.proofs.schemes.key_by.Goals as goal

pub returns-in-Fri-clause-made : goal.returns-in-Fri-clause-made
returns-in-Fri-clause-made g c = rw c.in-Fri.is (
    made_by_numbers _ c.config_for-config.result.pcs c.new-pcs.result (λ pcs. pcs.parameters) c.in-Fri.parameters (statement_view c.args.statement.now)
    c.config_for-config.ensures.pcs c.new-pcs.ensures _ c.key_with.ensures.made
    )

pub returns-in-Clear-clause-made : goal.returns-in-Clear-clause-made
returns-in-Clear-clause-made g c = rw c.in-Clear.is (
    made_in_the_clear _ c.config_for-config-in-Clear.result.pcs c.new-pcs-in-Clear.result clear_pcs (statement_view c.args.statement.now)
    c.config_for-config-in-Clear.ensures.pcs c.new-pcs-in-Clear.ensures _ c.key_with-in-Clear.ensures.made
    )
