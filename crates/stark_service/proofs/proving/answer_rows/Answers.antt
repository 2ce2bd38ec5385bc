use Rattle.std.proofs.Common.{◌∙◌, ap}
use Rattle.stark_service.proofs.Accepting.{check_is_no_proof, check_proves_none, rows_satisfy, unchecked_is_other, unfit_proves_none}
use Rattle.stark_service.proofs.TraceTasks.{checked_within, stated_check, stated_otherwise, stated_satisfied, stated_unchecked, stated_unfit}
use Rattle.stark_service.proofs.proving.answer_rows.Goals as goal

pub check_rows-requires-clause-height : goal.check_rows-requires-clause-height
check_rows-requires-clause-height g c = c.requires.columns.height

pub check_rows-requires-clause-columns : goal.check_rows-requires-clause-columns
check_rows-requires-clause-columns g c = c.requires.columns.columns

pub check_rows-report-requires-clause-height : goal.check_rows-report-requires-clause-height
check_rows-report-requires-clause-height g c = c.requires.columns.height

pub check_rows-report-requires-clause-columns : goal.check_rows-report-requires-clause-columns
check_rows-report-requires-clause-columns g c = c.requires.columns.columns

pub check_rows-requires-clause-fits : goal.check_rows-requires-clause-fits
check_rows-requires-clause-fits g c = (c.requires.read.0, c.in-Ok.ensures c.requires.read.0 c.requires.read.1)

pub check_rows-report-requires-clause-fits : goal.check_rows-report-requires-clause-fits
check_rows-report-requires-clause-fits g c = (c.requires.read.0, c.in-Ok.ensures c.requires.read.0 c.requires.read.1)

pub prove_rows-requires-clause-greatest : goal.prove_rows-requires-clause-greatest
prove_rows-requires-clause-greatest g c = c.log_max_trace_height-greatest.ensures ∙ ap (λ p. g.SC.Pcs.Pcs.scheme.log_max_trace_height p) c.pcs.ensures

pub prove_rows-requires-clause-fits : goal.prove_rows-requires-clause-fits
prove_rows-requires-clause-fits g c = (c.requires.read.0, c.in-Ok.ensures c.requires.read.0 c.requires.read.1)

pub prove_rows-requires-in-Satisfied-clause-greatest : goal.prove_rows-requires-in-Satisfied-clause-greatest
prove_rows-requires-in-Satisfied-clause-greatest g c = c.log_max_trace_height-greatest.ensures ∙ ap (λ p. g.SC.Pcs.Pcs.scheme.log_max_trace_height p) c.pcs.ensures

pub prove_rows-requires-in-Satisfied-clause-fits : goal.prove_rows-requires-in-Satisfied-clause-fits
prove_rows-requires-in-Satisfied-clause-fits g c = (c.requires.read.0, c.in-Ok.ensures c.requires.read.0 c.requires.read.1)

pub returns-in-Err-clause-tells : goal.returns-in-Err-clause-tells
returns-in-Err-clause-tells g c = λ list has.
    let most = c.log_max_trace_height-greatest.ensures ∙ ap (λ p. g.SC.Pcs.Pcs.scheme.log_max_trace_height p) c.pcs.ensures in
    stated_unfit _ _ _ _ _ c.args.asked c.log_max_trace_height-greatest.result list _ most (c.in-Err.ensures list has)

pub returns-in-Check-clause-tells : goal.returns-in-Check-clause-tells
returns-in-Check-clause-tells g c = λ list has.
    let most = c.log_max_trace_height-greatest.ensures ∙ ap (λ p. g.SC.Pcs.Pcs.scheme.log_max_trace_height p) c.pcs.ensures in
    stated_check _ _ _ _ _ c.args.asked _ _ c.in-Check.is (checked_within _ _ _ _ most _ _ _ _ (c.check_rows.ensures list (c.in-Ok.ensures list has)))

pub returns-in-Satisfied-clause-tells : goal.returns-in-Satisfied-clause-tells
returns-in-Satisfied-clause-tells g c = λ list has.
    let most = c.log_max_trace_height-greatest.ensures ∙ ap (λ p. g.SC.Pcs.Pcs.scheme.log_max_trace_height p) c.pcs.ensures in
    stated_satisfied _ _ _ _ _ c.args.asked _ _ c.in-Prove.form c.in-Prove.is c.check_rows-report.result.answer c.in-Satisfied.is (checked_within _ _ _ _ most _ _ _ _ (c.check_rows-report.ensures list (c.in-Ok.ensures list has)))
    (c.prove_rows-in-Satisfied.ensures.proves list (c.in-Ok.ensures list has))

pub returns-in_default-clause-tells : goal.returns-in_default-clause-tells
returns-in_default-clause-tells g c = λ list has.
    let most = c.log_max_trace_height-greatest.ensures ∙ ap (λ p. g.SC.Pcs.Pcs.scheme.log_max_trace_height p) c.pcs.ensures in
    stated_otherwise _ _ _ _ _ c.args.asked _ _ c.in-Prove.form c.in-Prove.is c.in_default.not-Satisfied (checked_within _ _ _ _ most _ _ _ _ (c.check_rows-report.ensures list (c.in-Ok.ensures list has)))

pub returns-in-ProveUnchecked-clause-tells : goal.returns-in-ProveUnchecked-clause-tells
returns-in-ProveUnchecked-clause-tells g c = λ list has.
    stated_unchecked _ _ _ _ _ c.args.asked _ _ c.in-ProveUnchecked.form c.in-ProveUnchecked.is (c.prove_rows.ensures.proves list (c.in-Ok.ensures list has))

pub returns-in-Err-clause-accepted : goal.returns-in-Err-clause-accepted
returns-in-Err-clause-accepted g c = λ can list has fixed form is proof. absurd (unfit_proves_none _ (c.in-Err.ensures list has) form proof)

pub returns-in-Check-clause-accepted : goal.returns-in-Check-clause-accepted
returns-in-Check-clause-accepted g c = λ can list has fixed form is proof. absurd (check_is_no_proof c.args.asked form c.in-Check.is is)

pub returns-in-Satisfied-clause-accepted : goal.returns-in-Satisfied-clause-accepted
returns-in-Satisfied-clause-accepted g c = λ can list has fixed form is proof.
    let given = c.in-Ok.ensures list has in
    c.prove_rows-in-Satisfied.ensures.accepted can list given (record { satisfied = rows_satisfy _ _ _ _ _ list c.check_rows-report.result.answer c.in-Satisfied.is (c.check_rows-report.ensures list given); fixed = fixed }) form proof

pub returns-in_default-clause-accepted : goal.returns-in_default-clause-accepted
returns-in_default-clause-accepted g c = λ can list has fixed form is proof. absurd (check_proves_none _ _ _ _ _ _ _ (c.check_rows-report.ensures list (c.in-Ok.ensures list has)) form proof)

pub returns-in-ProveUnchecked-clause-accepted : goal.returns-in-ProveUnchecked-clause-accepted
returns-in-ProveUnchecked-clause-accepted g c = λ can list has fixed form is proof. absurd (unchecked_is_other c.args.asked c.in-ProveUnchecked.form form c.in-ProveUnchecked.is is)
