use Rattle.std.proofs.Common.{◌∙◌, ap, arith, length, refl, subst, sym}
use Rattle.stark_statement.specs.StatementView.{statement_view}
use Rattle.stark_tree_air.specs.Traces.{declared_trace}
use Rattle.stark_answers.specs.CheckedAir.{shape_of}
use Rattle.stark_service.specs.Fitting.{IsFitting}
use Rattle.stark_answers.proofs.TraceSteps.{same_trace, trace_rows}
use Rattle.stark_service.proofs.StatementSteps.{same_declared, tree_checked}
use Rattle.stark_service.proofs.TraceTasks.{checked_shaped, checked_unfit, columns_height, fault_at_height, rows_fit}
use Rattle.stark_service.proofs.checking.check_rows.Goals as goal

pub check_trace-requires-clause-columns : goal.check_trace-requires-clause-columns
check_trace-requires-clause-columns g c =
    let d = c.args.statement.now.air.declaration in
    let l = c.args.statement.now.air.list in
    let f = subst (λ a. IsFitting c.args.greatest c.args.log_rows a c.args.statement.now.public_values.items c.requires.fits.0 c.args.trace.now) (sym (same_declared d l)) c.requires.fits.1 in
    omega (arith, c.requires.columns, f.width)

pub check_trace-requires-clause-width : goal.check_trace-requires-clause-width
check_trace-requires-clause-width g c =
    let d = c.args.statement.now.air.declaration in
    let l = c.args.statement.now.air.list in
    let f = subst (λ a. IsFitting c.args.greatest c.args.log_rows a c.args.statement.now.public_values.items c.requires.fits.0 c.args.trace.now) (sym (same_declared d l)) c.requires.fits.1 in
    f.width

pub check_trace-requires-clause-height : goal.check_trace-requires-clause-height
check_trace-requires-clause-height g c =
    let d = c.args.statement.now.air.declaration in
    let l = c.args.statement.now.air.list in
    let f = subst (λ a. IsFitting c.args.greatest c.args.log_rows a c.args.statement.now.public_values.items c.requires.fits.0 c.args.trace.now) (sym (same_declared d l)) c.requires.fits.1 in
    let air = tree_checked d l in
    let public_values = c.args.statement.now.public_values.items in
    let fitting =
    rows_fit c.args.greatest public_values c.args.log_rows c.requires.fits.0 air (shape_of air) f.log_height c.args.trace.now.width (length public_values) c.args.trace.now.values.items refl f.fits c.requires.columns f.width f.values refl in (
      fitting.height,
      fitting.rows,
      columns_height (declared_trace d.columns.preprocessed_trace) c.args.log_rows fitting.height c.requires.height fitting.preprocessed_rows,
    )

pub check_trace-requires-clause-public_values : goal.check_trace-requires-clause-public_values
check_trace-requires-clause-public_values g c =
    let d = c.args.statement.now.air.declaration in
    let l = c.args.statement.now.air.list in
    let f = subst (λ a. IsFitting c.args.greatest c.args.log_rows a c.args.statement.now.public_values.items c.requires.fits.0 c.args.trace.now) (sym (same_declared d l)) c.requires.fits.1 in
    ap length c.as_slice-public_values.ensures.value ∙ f.fits.public_values

pub returns-in-Some : goal.returns-in-Some
returns-in-Some g c = λ list given.
    let d = c.args.statement.now.air.declaration in
    let l = c.args.statement.now.air.list in
    let f = subst (λ a. IsFitting c.args.greatest c.args.log_rows a c.args.statement.now.public_values.items list c.args.trace.now) (sym (same_declared d l)) given in
    let air = tree_checked d l in
    let whole = trace_rows (shape_of air) c.args.log_rows c.args.greatest list c.args.statement.now.public_values.items f.log_height f.fits c.args.trace.now.width c.args.trace.now.values.items f.width f.values in
    let unfit = fault_at_height d.columns.periodic_columns.items f.log_height _ _ _ whole (omega (arith, c.requires.columns, f.width)) c.height.ensures _ c.columns_fault.ensures in
    checked_unfit _ _ c.args.greatest (statement_view c.args.statement.now) c.args.log_rows list air (shape_of air) _ refl (same_declared d l) f.log_height c.in-Some.fault f.fits (unfit ∙ c.in-Some.is) c.unfit_column.ensures

pub returns-in-None : goal.returns-in-None
returns-in-None g c = λ list given.
    let d = c.args.statement.now.air.declaration in
    let l = c.args.statement.now.air.list in
    let f = subst (λ a. IsFitting c.args.greatest c.args.log_rows a c.args.statement.now.public_values.items list c.args.trace.now) (sym (same_declared d l)) given in
    let air = tree_checked d l in
    let whole = trace_rows (shape_of air) c.args.log_rows c.args.greatest list c.args.statement.now.public_values.items f.log_height f.fits c.args.trace.now.width c.args.trace.now.values.items f.width f.values in
    let fitting = fault_at_height d.columns.periodic_columns.items f.log_height _ _ _ whole (omega (arith, c.requires.columns, f.width)) c.height.ensures _ c.columns_fault.ensures in
    checked_shaped _ _ c.args.greatest (statement_view c.args.statement.now) c.args.log_rows list air (shape_of air) _ refl (same_declared d l) f.log_height _ c.as_slice-public_values.result.now f.fits
    (same_trace c.args.trace.now.width _ c.args.trace.now.values.items _ f.width f.values) c.as_slice-public_values.ensures.value (fitting ∙ c.in-None.is) c.check_trace.ensures
