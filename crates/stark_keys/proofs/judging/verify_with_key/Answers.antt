use Rattle.std.proofs.Common.{sym}
use Rattle.stark_statement.specs.StatementView.{statement_view}
use Rattle.stark_proof.specs.ProofView.{proof_view}
use Rattle.stark_service.proofs.StatementSteps.{same_declared, tree_checked}
use Rattle.stark_keys.proofs.JudgingSteps.{by_key_of_other_height, by_key_of_read, by_key_without_proof}
use Rattle.stark_keys.proofs.judging.verify_with_key.Goals as goal

pub returns-in-Err : goal.returns-in-Err
returns-in-Err g c = by_key_without_proof _ _ _ (statement_view c.args.statement.now) c.args.key.now _ _ c.in-Err.ensures

pub returns-in-Some : goal.returns-in-Some
returns-in-Some g c = by_key_of_other_height _ _ _ (statement_view c.args.statement.now) c.args.key.now _ (proof_view c.in-Ok.proof) c.in-Some.fault _ c.in-Ok.ensures (sym c.in-Some.ensures) c.of_other_height.ensures

pub returns : goal.returns
returns g c =
    let d = c.args.statement.now.air.declaration in
    let l = c.args.statement.now.air.list in
    by_key_of_read _ _ _ (statement_view c.args.statement.now) c.args.key.now _ _ c.as_ref.ensures.value (tree_checked d l) (proof_view c.in-Ok.proof) c.deref.result.now _ _ _ _ _
    (sym c.in_default.ensures) c.in-Ok.ensures (same_declared d l) c.deref.ensures.value c.requires.ready.ood_work c.requires.ready.alpha_work c.verdict_of.ensures c.unless_unjudged.ensures
    c.verify_with_preprocessed-answer.ensures.accepted c.verify_with_preprocessed-answer.ensures.refused
