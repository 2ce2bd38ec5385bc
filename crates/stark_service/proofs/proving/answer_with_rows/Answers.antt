use Rattle.std.proofs.Common.{◌∙◌, ap, length, refl, sym}
use Rattle.stark_answers.specs.declared.finding.Finding.TheVariants as finding
use Rattle.stark_service.specs.Heights.{has_fixed_height, is_fixed_height}
use Rattle.stark_service.proofs.UnreadFindings.{verdict_no_proof}
use Rattle.stark_service.proofs.TraceTasks.{at_height, at_other_height, stated_of_read, stated_without_rows}
use Rattle.stark_service.proofs.proving.answer_with_rows.Goals as goal

pub answer_rows-requires-clause-read : goal.answer_rows-requires-clause-read
answer_rows-requires-clause-read g c = (c.in-Ok.ensures.0, c.in-Ok.ensures.2)

pub returns-then-not-is_fixed_height-clause-tells : goal.returns-then-not-is_fixed_height-clause-tells
returns-then-not-is_fixed_height-clause-tells g c =
    let fixed = c.args.statement.now.log_height in
    at_other_height _ _ _ _ _ c.args.asked _ _
    (ap (has_fixed_height fixed) c.in-Ok.ensures.1 ∙ ap (is_fixed_height fixed) (sym c.in-Ok.ensures.2.height) ∙ sym c.is_fixed_height.ensures ∙ c.if-not-is_fixed_height.true)
    (c.as_finding.ensures ∙ ap (λ v. finding.Verdict v) c.unfit_height-report.ensures)

pub returns-else-not-is_fixed_height-clause-tells : goal.returns-else-not-is_fixed_height-clause-tells
returns-else-not-is_fixed_height-clause-tells g c =
    let fixed = c.args.statement.now.log_height in
    at_height _ _ _ _ _ c.args.asked _ _
    (ap (has_fixed_height fixed) c.in-Ok.ensures.1 ∙ ap (is_fixed_height fixed) (sym c.in-Ok.ensures.2.height) ∙ sym c.is_fixed_height.ensures ∙ c.if-not-is_fixed_height.false)
    (stated_of_read _ _ _ _ _ c.args.asked _ _ c.in-Ok.ensures.0 c.in-Ok.ensures.0 c.in-Ok.ensures.1 refl (c.answer_rows.ensures.tells c.in-Ok.ensures.0 c.in-Ok.ensures.2))

pub returns-in-Err-clause-tells : goal.returns-in-Err-clause-tells
returns-in-Err-clause-tells g c = stated_without_rows _ _ _ _ _ c.args.asked _ _ _ c.as_finding-in-Err.ensures c.in-Err.ensures

pub returns-then-not-is_fixed_height-clause-accepted : goal.returns-then-not-is_fixed_height-clause-accepted
returns-then-not-is_fixed_height-clause-accepted g c = λ can form is proof. absurd (verdict_no_proof _ _ c.as_finding.ensures form proof)

pub returns-else-not-is_fixed_height-clause-accepted : goal.returns-else-not-is_fixed_height-clause-accepted
returns-else-not-is_fixed_height-clause-accepted g c = λ can.
    c.answer_rows.ensures.accepted can c.in-Ok.ensures.0 c.in-Ok.ensures.2
    (ap (is_fixed_height c.args.statement.now.log_height) (sym c.in-Ok.ensures.2.height) ∙ sym c.is_fixed_height.ensures ∙ c.if-not-is_fixed_height.false)

pub returns-in-Err-clause-accepted : goal.returns-in-Err-clause-accepted
returns-in-Err-clause-accepted g c = λ can form is proof. absurd (verdict_no_proof _ _ c.as_finding-in-Err.ensures form proof)
