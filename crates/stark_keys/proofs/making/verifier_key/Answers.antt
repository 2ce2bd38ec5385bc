use Rattle.std.proofs.Common.{◌∙◌, ◌+◌, ◌≤◌, ap, arith, is_some, subst, sym}
use Rattle.stark_support.specs.Scheme.{zk_bits}
use Rattle.stark_answers.proofs.CompleteSteps.{some_wide}
use Rattle.stark_answers.proofs.VerdictSteps.{of_some}
use Rattle.stark_service.proofs.StatementSteps.{same_declared, tree_checked}
use Rattle.stark_keys.proofs.MakingSteps.{declared_trace, no_columns}
use Rattle.stark_keys.proofs.making.verifier_key.Goals as goal

pub setup_preprocessed-requires-clause-within : goal.setup_preprocessed-requires-clause-within
setup_preprocessed-requires-clause-within g c = λ trace declared some.
    subst (λ z. c.args.log_rows + zk_bits z ≤ (g.SC.Pcs.Pcs.scheme.log_max_trace_height (g.SC.StarkGenericConfig.config.scheme c.args.config.now))) (sym c.requires.ready.plain) (omega (arith, c.requires.within))

pub returns-in-Ok-None : goal.returns-in-Ok-None
returns-in-Ok-None g c =
    let d = c.args.statement.now.air.declaration in
    let l = c.args.statement.now.air.list in
    no_columns (tree_checked d l) _ (same_declared d l) (sym c.in-Ok-None.ensures.there ∙ ap is_some c.in-Ok-None.field-0-is)

pub returns-in-Ok-Some : goal.returns-in-Ok-Some
returns-in-Ok-Some g c =
    let d = c.args.statement.now.air.declaration in
    let l = c.args.statement.now.air.list in
    let made = of_some _ c.in-Ok-Some.field-0 (c.in-Ok-Some._data, c.in-Ok-Some.key) c.in-Ok-Some.field-0-is c.in-Ok-Some.ensures.set_up in
    let there = sym (ap is_some c.in-Ok-Some.field-0-is) ∙ c.in-Ok-Some.ensures.there in
    (made.0, declared_trace (tree_checked d l) _ made.0 (same_declared d l) made.1, c.in-Ok-Some._data, made.2, some_wide _ made.0 made.1 there)
