use Rattle.std.proofs.Common.{◌+◌, ◌≤◌, arith, subst, sym}
use Rattle.stark_support.specs.Scheme.{zk_bits}
use Rattle.stark_statement.specs.StatementView.{statement_view}
use Rattle.stark_proof.specs.ProofView.{proof_view}
use Rattle.stark_service.proofs.StatementSteps.{same_declared, tree_checked, verdict_of_other_height, verdict_of_read, verdict_without_proof}
use Rattle.stark_service.proofs.judging.verify_with_rows.Goals as goal

pub verify_with_key-answer-requires-clause-within : goal.verify_with_key-answer-requires-clause-within
verify_with_key-answer-requires-clause-within g c =
    subst (λ z. c.args.log_rows + zk_bits z ≤ (g.SC.Pcs.Pcs.scheme.log_max_trace_height (g.SC.StarkGenericConfig.config.scheme c.args.config.now))) (sym c.requires.ready.plain) (omega (arith, c.requires.within))

pub verify_with_key-answer-requires-clause-sets_up : goal.verify_with_key-answer-requires-clause-sets_up
verify_with_key-answer-requires-clause-sets_up g c = c.requires.ready.sets_up

pub returns-in-Err : goal.returns-in-Err
returns-in-Err g c = verdict_without_proof _ _ _ _ _ _ _ c.in-Err.ensures

pub returns-in-Some : goal.returns-in-Some
returns-in-Some g c =
    verdict_of_other_height _ _ _ (statement_view c.args.statement.now) c.args.log_rows _ (proof_view c.in-Ok.proof) c.in-Some.fault _ c.in-Ok.ensures (sym c.in-Some.ensures) c.of_other_height.ensures

pub returns : goal.returns
returns g c =
    let d = c.args.statement.now.air.declaration in
    let l = c.args.statement.now.air.list in
    verdict_of_read _ _ _ (statement_view c.args.statement.now) c.args.log_rows _ (tree_checked d l) (proof_view c.in-Ok.proof) c.deref.result.now _ _ _ _ _
    (sym c.in_default.ensures) c.in-Ok.ensures (same_declared d l) c.deref.ensures.value c.requires.ready.ood_work c.requires.ready.alpha_work c.verdict_of.ensures c.unless_unjudged.ensures c.verify_with_key-answer.ensures
