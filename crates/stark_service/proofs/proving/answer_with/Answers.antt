use Rattle.std.proofs.Common.{◌≡◌, ◌<◌, ◌≤◌, ◌∙◌, ap, arith, subst}
use Rattle.stark_protocol.specs.Preprocessing.{HasHeight}
use Rattle.stark_tree_air.specs.Traces.{declared_trace}
use Rattle.stark_statement.specs.StatementView.{statement_view}
use Rattle.stark_answers.specs.CheckedAir.{CheckedAir}
use Rattle.stark_answers.specs.declared.finding.Finding.TheVariants as finding
use Rattle.stark_service.proofs.FoundRows.{found_with_rows, found_without_columns, found_without_rows, has_no_rows_found, has_rows_found, stated_is_file, stated_is_of_trace}
use Rattle.stark_answers.specs.ProveFacts.{line_begins}
use Rattle.stark_answers.proofs.VerdictSteps.{of_some}
use Rattle.stark_service.proofs.Accepting.{accepted_on}
use Rattle.stark_service.proofs.UnreadFindings.{verdict_no_proof}
use Rattle.stark_service.proofs.StatementSteps.{reads_declared, same_declared, tree_checked}
use Rattle.stark_service.proofs.proving.answer_with.Goals as goal

pub returns-then-width-eq0-clause-finds : goal.returns-then-width-eq0-clause-finds
returns-then-width-eq0-clause-finds g c =
    let d = c.args.statement.now.air.declaration in
    let l = c.args.statement.now.air.list in
    found_without_columns _ _ _ (statement_view c.args.statement.now) c.args.asked _ _ (subst (λ (a : CheckedAir _). a.layout.main ≡ 0) (same_declared d l) (omega (arith, c.width.ensures, c.if-width-eq0.true)))
    (c.as_finding.ensures ∙ ap (λ v. finding.Verdict v) c.bad_input.ensures)

pub returns-then-width-eq0-clause-kind : goal.returns-then-width-eq0-clause-kind
returns-then-width-eq0-clause-kind g c = stated_is_of_trace _ (line_begins _ _ _ _ _ _) _ _ (statement_view c.args.statement.now) c.args.asked _ _ (returns-then-width-eq0-clause-finds g c)

pub returns-then-width-eq0-clause-proof : goal.returns-then-width-eq0-clause-proof
returns-then-width-eq0-clause-proof g c = stated_is_file _ (line_begins _ _ _ _ _ _) _ _ (statement_view c.args.statement.now) c.args.asked _ _ (returns-then-width-eq0-clause-finds g c)

pub answer_with_rows-requires-clause-able : goal.answer_with_rows-requires-clause-able
answer_with_rows-requires-clause-able g c = record { ready = c.requires.ready; able = c.requires.able }

pub answer_with_rows-requires-clause-columns : goal.answer_with_rows-requires-clause-columns
answer_with_rows-requires-clause-columns g c =
    let most = c.log_max_trace_height-greatest.ensures ∙ ap (λ p. g.SC.Pcs.Pcs.scheme.log_max_trace_height p) c.pcs.ensures in
    record {
      height = of_some (λ n. HasHeight n (declared_trace c.args.statement.now.air.declaration.columns.preprocessed_trace)) c.in-Ok-Some.field-0 c.in-Ok-Some.log_rows c.in-Ok-Some.field-0-is c.in-Ok-Some.ensures.height;
      within = subst (λ n. c.in-Ok-Some.log_rows ≤ n) most (of_some (λ n. n ≤ c.log_max_trace_height-greatest.result) c.in-Ok-Some.field-0 c.in-Ok-Some.log_rows c.in-Ok-Some.field-0-is c.in-Ok-Some.ensures.within);
      columns = omega (arith, c.width.ensures, c.if-width-eq0.false);
    }

pub returns-in-Ok-Some-clause-finds : goal.returns-in-Ok-Some-clause-finds
returns-in-Ok-Some-clause-finds g c =
    let most = c.log_max_trace_height-greatest.ensures ∙ ap (λ p. g.SC.Pcs.Pcs.scheme.log_max_trace_height p) c.pcs.ensures in
    let d = c.args.statement.now.air.declaration in
    let l = c.args.statement.now.air.list in
    found_with_rows _ _ _ (statement_view c.args.statement.now) c.args.asked _ _ c.in-Ok-Some.log_rows (subst (λ (a : CheckedAir _). 0 < a.layout.main) (same_declared d l) (omega (arith, c.width.ensures, c.if-width-eq0.false)))
    (has_rows_found _ _ most (tree_checked d l) _ (same_declared d l) c.in-Ok-Some.field-0 c.in-Ok-Some.log_rows c.in-Ok-Some.field-0-is c.in-Ok-Some.ensures.height c.in-Ok-Some.ensures.within) c.answer_with_rows.ensures.tells

pub returns-in-Ok-Some-clause-kind : goal.returns-in-Ok-Some-clause-kind
returns-in-Ok-Some-clause-kind g c = stated_is_of_trace _ (line_begins _ _ _ _ _ _) _ _ (statement_view c.args.statement.now) c.args.asked _ _ (returns-in-Ok-Some-clause-finds g c)

pub returns-in-Ok-Some-clause-proof : goal.returns-in-Ok-Some-clause-proof
returns-in-Ok-Some-clause-proof g c = stated_is_file _ (line_begins _ _ _ _ _ _) _ _ (statement_view c.args.statement.now) c.args.asked _ _ (returns-in-Ok-Some-clause-finds g c)

pub returns-in-Ok-None-clause-finds : goal.returns-in-Ok-None-clause-finds
returns-in-Ok-None-clause-finds g c =
    let most = c.log_max_trace_height-greatest.ensures ∙ ap (λ p. g.SC.Pcs.Pcs.scheme.log_max_trace_height p) c.pcs.ensures in
    let d = c.args.statement.now.air.declaration in
    let l = c.args.statement.now.air.list in
    found_without_rows _ _ _ (statement_view c.args.statement.now) c.args.asked _ _
    (has_no_rows_found _ _ most (tree_checked d l) _ (same_declared d l) c.in-Ok-None.field-0 c.in-Ok-None.field-0-is c.in-Ok-None.ensures.none)
    (c.as_finding-in-Ok-None.ensures ∙ ap (λ v. finding.Verdict v) c.unfit_rows.ensures)

pub returns-in-Ok-None-clause-kind : goal.returns-in-Ok-None-clause-kind
returns-in-Ok-None-clause-kind g c = stated_is_of_trace _ (line_begins _ _ _ _ _ _) _ _ (statement_view c.args.statement.now) c.args.asked _ _ (returns-in-Ok-None-clause-finds g c)

pub returns-in-Ok-None-clause-proof : goal.returns-in-Ok-None-clause-proof
returns-in-Ok-None-clause-proof g c = stated_is_file _ (line_begins _ _ _ _ _ _) _ _ (statement_view c.args.statement.now) c.args.asked _ _ (returns-in-Ok-None-clause-finds g c)

pub returns-then-width-eq0-clause-accepted : goal.returns-then-width-eq0-clause-accepted
returns-then-width-eq0-clause-accepted g c = λ can form is proof. absurd (verdict_no_proof _ _ c.as_finding.ensures form proof)

pub returns-in-Ok-Some-clause-accepted : goal.returns-in-Ok-Some-clause-accepted
returns-in-Ok-Some-clause-accepted g c = λ can form is proof.
    let most = c.log_max_trace_height-greatest.ensures ∙ ap (λ p. g.SC.Pcs.Pcs.scheme.log_max_trace_height p) c.pcs.ensures in
    let d = c.args.statement.now.air.declaration in
    let l = c.args.statement.now.air.list in
    let rows = has_rows_found _ _ most (tree_checked d l) _ (same_declared d l) c.in-Ok-Some.field-0 c.in-Ok-Some.log_rows c.in-Ok-Some.field-0-is c.in-Ok-Some.ensures.height c.in-Ok-Some.ensures.within in
    accepted_on _ g.met.SC.Pcs.UnivariateStarkPcs.scheme_laws _ can.one_key _ (statement_view c.args.statement.now) c.in-Ok-Some.log_rows _ (reads_declared d l c.args.statement.now.air.without_fault) rows (c.answer_with_rows.ensures.accepted can form is proof)

pub returns-in-Ok-None-clause-accepted : goal.returns-in-Ok-None-clause-accepted
returns-in-Ok-None-clause-accepted g c = λ can form is proof. absurd (verdict_no_proof _ _ c.as_finding-in-Ok-None.ensures form proof)

pub returns-in-Err-clause-accepted : goal.returns-in-Err-clause-accepted
returns-in-Err-clause-accepted g c = λ can form is proof. absurd (verdict_no_proof _ _ c.as_finding-in-Err.ensures form proof)
