use Rattle.std.proofs.Common.{refl}
use Rattle.stark_cli.proofs.AcceptedSteps.{asked_proof, floor_is_other, show_is_other, verify_is_other}
use Rattle.stark_cli.proofs.StatementMeaning.{floor_found, same_inputs, show_found, trace_found, verify_found}
use Rattle.stark_cli.proofs.statements.answer.Goals as goal

pub returns-in-Verify-clause-finds : goal.returns-in-Verify-clause-finds
returns-in-Verify-clause-finds g c =
    same_inputs _ _ _ _ _ _ _ _ _ c.deref.result.now _ _ refl c.deref.ensures.value
    (verify_found _ _ _ _ _ _ _ (c.args.statement.items, c.deref.result.now) _ _ c.in-Verify.is c.as_finding.ensures c.verify.ensures.verdict c.verify.ensures.sound)

pub returns-in-VerifyAtLeast-clause-finds : goal.returns-in-VerifyAtLeast-clause-finds
returns-in-VerifyAtLeast-clause-finds g c =
    same_inputs _ _ _ _ _ _ _ _ _ _ _ _ c.deref-in-VerifyAtLeast.ensures.value c.deref-in-VerifyAtLeast-2.ensures.value
    (floor_found _ _ _ _ _ _ _ c.in-VerifyAtLeast.floor (c.deref-in-VerifyAtLeast.result.now, c.deref-in-VerifyAtLeast-2.result.now) _ _ c.in-VerifyAtLeast.is c.floor_finding.ensures c.verify_at_least.ensures.verdict c.verify_at_least.ensures.sound)

pub returns-in-Trace-clause-finds : goal.returns-in-Trace-clause-finds
returns-in-Trace-clause-finds g c = trace_found _ _ _ _ _ _ _ c.in-Trace.asked _ _ c.in-Trace.is c.answer.ensures.finds c.answer.ensures.kind c.answer.ensures.proof

pub returns-in-Show-clause-finds : goal.returns-in-Show-clause-finds
returns-in-Show-clause-finds g c = show_found _ _ _ _ _ _ _ _ _ c.in-Show.is c.show.ensures.shown c.show.ensures.kind

pub returns-in-Verify-clause-accepted : goal.returns-in-Verify-clause-accepted
returns-in-Verify-clause-accepted g c = λ form proves proof. absurd (verify_is_other c.args.verb form c.in-Verify.is proves)

pub returns-in-VerifyAtLeast-clause-accepted : goal.returns-in-VerifyAtLeast-clause-accepted
returns-in-VerifyAtLeast-clause-accepted g c = λ form proves proof. absurd (floor_is_other c.args.verb c.in-VerifyAtLeast.floor form c.in-VerifyAtLeast.is proves)

pub returns-in-Trace-clause-accepted : goal.returns-in-Trace-clause-accepted
returns-in-Trace-clause-accepted g c = λ form proves proof. c.answer.ensures.accepted form (asked_proof c.args.verb c.in-Trace.asked form c.in-Trace.is proves) proof

pub returns-in-Show-clause-accepted : goal.returns-in-Show-clause-accepted
returns-in-Show-clause-accepted g c = λ form proves proof. absurd (show_is_other c.args.verb form c.in-Show.is proves)
