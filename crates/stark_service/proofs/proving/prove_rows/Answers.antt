use Rattle.std.proofs.Common.{◌+◌, ◌≤◌, ap, arith, length, refl, subst, sym}
use Rattle.stark_statement.specs.StatementView.{statement_view}
use Rattle.stark_support.specs.Scheme.{zk_bits}
use Rattle.stark_answers.specs.CheckedAir.{shape_of}
use Rattle.stark_answers.specs.Prove.{IsTraceFor}
use Rattle.stark_answers.specs.TraceShape.{FitsShape}
use Rattle.stark_service.specs.Fitting.{IsFitting}
use Rattle.stark_answers.proofs.TraceSteps.{same_trace, trace_rows}
use Rattle.stark_service.proofs.Accepting.{rows_accepted}
use Rattle.stark_service.proofs.StatementSteps.{found_shaped, same_declared, tree_checked}
use Rattle.stark_service.proofs.TraceTasks.{rows_fit}
use Rattle.stark_service.proofs.proving.prove_rows.Goals as goal

pub prove_with_own_columns-answer-requires-clause-fits : goal.prove_with_own_columns-answer-requires-clause-fits
prove_with_own_columns-answer-requires-clause-fits g c =
    let d = c.args.statement.now.air.declaration in
    let l = c.args.statement.now.air.list in
    let most = g.SC.Pcs.Pcs.scheme.log_max_trace_height (g.SC.StarkGenericConfig.config.scheme c.args.config.now) in
    let f =
    subst (λ n. IsFitting n c.args.log_rows (tree_checked d l) c.args.statement.now.public_values.items c.requires.fits.0 c.args.trace) c.requires.greatest
    (subst (λ a. IsFitting c.args.greatest c.args.log_rows a c.args.statement.now.public_values.items c.requires.fits.0 c.args.trace) (sym (same_declared d l)) c.requires.fits.1) in
    let air = tree_checked d l in
    subst (λ z. IsTraceFor air.layout c.args.log_rows (record { width = c.args.trace.width; values = c.args.trace.values.items }) (length c.as_slice-public_values.result.now) (zk_bits z) most) (sym c.requires.able.ready.plain)
    (rows_fit most c.args.statement.now.public_values.items c.args.log_rows c.requires.fits.0 air (shape_of air) f.log_height c.args.trace.width (length c.as_slice-public_values.result.now) c.args.trace.values.items
    refl f.fits c.requires.columns.columns f.width f.values (ap length c.as_slice-public_values.ensures.value))

pub prove_with_own_columns-answer-requires-clause-height : goal.prove_with_own_columns-answer-requires-clause-height
prove_with_own_columns-answer-requires-clause-height g c = c.requires.columns.height

pub prove_with_own_columns-answer-requires-clause-within : goal.prove_with_own_columns-answer-requires-clause-within
prove_with_own_columns-answer-requires-clause-within g c =
    subst (λ z. c.args.log_rows + zk_bits z ≤ g.SC.Pcs.Pcs.scheme.log_max_trace_height (g.SC.StarkGenericConfig.config.scheme c.args.config.now)) (sym c.requires.able.ready.plain) (omega (arith, c.requires.columns.within))

pub prove_with_own_columns-answer-requires-clause-any_height : goal.prove_with_own_columns-answer-requires-clause-any_height
prove_with_own_columns-answer-requires-clause-any_height g c = c.requires.able.able.any_height

pub prove_with_own_columns-answer-requires-clause-complete : goal.prove_with_own_columns-answer-requires-clause-complete
prove_with_own_columns-answer-requires-clause-complete g c = c.requires.able.able.complete

pub prove_with_own_columns-answer-requires-clause-sets_up : goal.prove_with_own_columns-answer-requires-clause-sets_up
prove_with_own_columns-answer-requires-clause-sets_up g c = c.requires.able.ready.sets_up

pub returns-clause-proves : goal.returns-clause-proves
returns-clause-proves g c = λ list given.
    let d = c.args.statement.now.air.declaration in
    let l = c.args.statement.now.air.list in
    let most = g.SC.Pcs.Pcs.scheme.log_max_trace_height (g.SC.StarkGenericConfig.config.scheme c.args.config.now) in
    let f =
    subst (λ n. IsFitting n c.args.log_rows (tree_checked d l) c.args.statement.now.public_values.items list c.args.trace) c.requires.greatest
    (subst (λ a. IsFitting c.args.greatest c.args.log_rows a c.args.statement.now.public_values.items list c.args.trace) (sym (same_declared d l)) given) in
    let air = tree_checked d l in
    let public_values = c.as_slice-public_values.result.now in
    let fits = subst (λ ps. FitsShape (shape_of air) c.args.log_rows most list ps f.log_height) (sym c.as_slice-public_values.ensures.value) f.fits in
    let whole = trace_rows (shape_of air) c.args.log_rows most list public_values f.log_height fits c.args.trace.width c.args.trace.values.items f.width f.values in
    found_shaped _ c.requires.able.able.no_float c.args.form _ _ (statement_view c.args.statement.now) c.args.log_rows list air (shape_of air) f.log_height _ public_values _ _ _ _ _
    refl (same_declared d l) fits (same_trace c.args.trace.width _ c.args.trace.values.items _ f.width f.values)
    c.as_slice-public_values.ensures.value c.requires.able.ready.ood_work c.requires.able.ready.alpha_work c.finding_of_proof.ensures.finds c.unless_unjudged.ensures (c.prove_with_own_columns-answer.ensures.proves f.log_height whole)

pub returns-clause-accepted : goal.returns-clause-accepted
returns-clause-accepted g c = λ can list given are.
    let d = c.args.statement.now.air.declaration in
    let l = c.args.statement.now.air.list in
    let most = g.SC.Pcs.Pcs.scheme.log_max_trace_height (g.SC.StarkGenericConfig.config.scheme c.args.config.now) in
    let f =
    subst (λ n. IsFitting n c.args.log_rows (tree_checked d l) c.args.statement.now.public_values.items list c.args.trace) c.requires.greatest
    (subst (λ a. IsFitting c.args.greatest c.args.log_rows a c.args.statement.now.public_values.items list c.args.trace) (sym (same_declared d l)) given) in
    let air = tree_checked d l in
    let public_values = c.as_slice-public_values.result.now in
    let fits = subst (λ ps. FitsShape (shape_of air) c.args.log_rows most list ps f.log_height) (sym c.as_slice-public_values.ensures.value) f.fits in
    let whole = trace_rows (shape_of air) c.args.log_rows most list public_values f.log_height fits c.args.trace.width c.args.trace.values.items f.width f.values in
    rows_accepted _ _ _ can.shallow _ _ (statement_view c.args.statement.now) c.args.log_rows list c.args.form air f.log_height _ public_values _ _ _ _ _
    (same_declared d l) (same_trace c.args.trace.width _ c.args.trace.values.items _ f.width f.values) c.as_slice-public_values.ensures.value c.requires.able.ready.ood_work c.requires.able.ready.alpha_work
    c.requires.able.ready.plain f.fits.height whole are c.finding_of_proof.ensures.finds c.finding_of_proof.ensures.read_back c.prove_with_own_columns-answer.ensures.complete c.unless_unjudged.ensures
