use Rattle.std.proofs.Common.{None, Some, [], ap, is_some, refl, sym, ◌∙◌}
use Rattle.stark_completeness.specs.RowCheck.{trace_of}
use Rattle.stark_prover.specs.SetUpFacts.{data_of_set_up, key_of_set_up, no_columns, same_columns, some_columns, stands_for_set_up, width_of}
use Rattle.stark_answers.proofs.CompleteSteps.{complete_answer, set_up_at, some_set_up, some_wide}
use Rattle.stark_answers.proofs.VerdictSteps.{of_some}
use Rattle.stark_answers.proofs.TraceSteps.{answers, at_columns, lacks_memory, only_memory, same_degree}
use Rattle.stark_answers.proofs.own_columns.prove_with_own_columns.Goals as goal

pub setup_preprocessed-requires-clause-within : goal.setup_preprocessed-requires-clause-within
setup_preprocessed-requires-clause-within g c = λ trace declared some. c.requires.within

pub prove-requires-clause-fits : goal.prove-requires-clause-fits
prove-requires-clause-fits g c =
    let trace = g.A.BaseAir.preprocessed_trace c.args.air.now in
    let declared = (g.met.A.BaseAir.as_declared c.args.air.now).preprocessed_width in
    let none = sym c.in-Ok-None.ensures.there ∙ ap is_some c.in-Ok-None.field-0-is in
    record {
      columns = c.requires.fits.columns;
      width = c.requires.fits.width;
      public_values = c.requires.fits.public_values;
      there = sym none ∙ same_columns trace _ declared;
      stands = ([], refl, sym (no_columns trace _ declared none));
    }

pub prove_with_preprocessed-requires-clause-height : goal.prove_with_preprocessed-requires-clause-height
prove_with_preprocessed-requires-clause-height g c =
    let made = of_some _ c.in-Ok-Some.field-0 (c.in-Ok-Some.data, c.in-Ok-Some._key) c.in-Ok-Some.field-0-is c.in-Ok-Some.ensures.set_up in
    let there = sym (ap is_some c.in-Ok-Some.field-0-is) ∙ c.in-Ok-Some.ensures.there ∙ same_columns (g.A.BaseAir.preprocessed_trace c.args.air.now) _ (g.met.A.BaseAir.as_declared c.args.air.now).preprocessed_width in
    (c.requires.fits.height, c.requires.fits.rows, c.requires.fits.within, same_degree _ _ _ _ made.2.prover_degree (c.requires.fits.preprocessed_rows (some_columns _ there)))

pub prove_with_preprocessed-requires-clause-fits : goal.prove_with_preprocessed-requires-clause-fits
prove_with_preprocessed-requires-clause-fits g c =
    let made = of_some _ c.in-Ok-Some.field-0 (c.in-Ok-Some.data, c.in-Ok-Some._key) c.in-Ok-Some.field-0-is c.in-Ok-Some.ensures.set_up in
    let parts = data_of_set_up made.2 in
    let declared = (g.met.A.BaseAir.as_declared c.args.air.now).preprocessed_width in
    record {
      columns = c.requires.fits.columns;
      width = c.requires.fits.width;
      public_values = c.requires.fits.public_values;
      there = sym (ap is_some c.in-Ok-Some.field-0-is) ∙ c.in-Ok-Some.ensures.there ∙ same_columns (g.A.BaseAir.preprocessed_trace c.args.air.now) _ declared;
      stands = (parts.0, parts.1, parts.2 ∙ sym (width_of (g.A.BaseAir.preprocessed_trace c.args.air.now) made.0 _ declared made.1));
    }

pub returns-in-Ok-None-clause-proves : goal.returns-in-Ok-None-clause-proves
returns-in-Ok-None-clause-proves g c = λ height rows.
    answers _ _ c.args.log_rows (g.SC.StarkGenericConfig.config.scheme c.args.config.now) (g.A.BaseAir.preprocessed_trace c.args.air.now) _ height _ None [] (sym c.in-Ok-None.ensures.there ∙ ap is_some c.in-Ok-None.field-0-is)
    c.requires.any_height c.requires.complete rows _ c.prove.ensures.made c.prove.ensures.acceptable c.prove.ensures.fault

pub returns-in-Ok-Some-clause-proves : goal.returns-in-Ok-Some-clause-proves
returns-in-Ok-Some-clause-proves g c = λ height rows.
    let made = of_some _ c.in-Ok-Some.field-0 (c.in-Ok-Some.data, c.in-Ok-Some._key) c.in-Ok-Some.field-0-is c.in-Ok-Some.ensures.set_up in
    answers _ _ c.args.log_rows (g.SC.StarkGenericConfig.config.scheme c.args.config.now) (g.A.BaseAir.preprocessed_trace c.args.air.now) _ height _ (Some c.in-Ok-Some.data) made.2.columns (made.0, made.1, c.in-Ok-Some._key, made.2)
    c.requires.any_height c.requires.complete rows _ (at_columns _ _ _ made.2.columns (stands_for_set_up made.2) _ c.prove_with_preprocessed.ensures.made) c.prove_with_preprocessed.ensures.acceptable c.prove_with_preprocessed.ensures.fault

pub returns-in-Err-clause-proves : goal.returns-in-Err-clause-proves
returns-in-Err-clause-proves g c = λ height rows. lacks_memory _ _ _ _ _ _ height _ _ _ refl (only_memory _ _ _ _ _ _ _ _ c.requires.sets_up c.in-Err.ensures.fault)

pub returns-in-Ok-None-clause-complete : goal.returns-in-Ok-None-clause-complete
returns-in-Ok-None-clause-complete g c =
    let none = sym c.in-Ok-None.ensures.there ∙ ap is_some c.in-Ok-None.field-0-is in
    complete_answer _ _ c.args.log_rows (g.SC.StarkGenericConfig.config.scheme c.args.config.now) (g.A.BaseAir.preprocessed_trace c.args.air.now) _ None None _ [] none refl tt (λ height rows. none)
    c.requires.any_height c.requires.complete _ c.prove.ensures.made c.prove.ensures.complete

pub returns-in-Ok-Some-clause-complete : goal.returns-in-Ok-Some-clause-complete
returns-in-Ok-Some-clause-complete g c =
    let made = of_some _ c.in-Ok-Some.field-0 (c.in-Ok-Some.data, c.in-Ok-Some._key) c.in-Ok-Some.field-0-is c.in-Ok-Some.ensures.set_up in
    let scheme = g.SC.StarkGenericConfig.config.scheme c.args.config.now in
    let declared = g.A.BaseAir.preprocessed_trace c.args.air.now in
    let there = sym (ap is_some c.in-Ok-Some.field-0-is) ∙ c.in-Ok-Some.ensures.there in
    let wide = some_columns _ (there ∙ same_columns declared _ (g.met.A.BaseAir.as_declared c.args.air.now).preprocessed_width) in
    complete_answer _ _ c.args.log_rows scheme declared _ (Some c.in-Ok-Some.data) (Some c.in-Ok-Some._key) _ made.2.columns (made.0, made.1, c.in-Ok-Some.data, made.2, some_wide declared made.0 made.1 there) (ap (λ k. Some k) (key_of_set_up made.2))
    (some_set_up made.2 declared made.1 there)
    (λ height rows. (made.0, made.1, set_up_at made.2 (trace_of c.args.trace) c.requires.fits.height c.requires.fits.rows c.requires.fits.columns (c.requires.fits.preprocessed_rows wide) height rows))
    c.requires.any_height c.requires.complete _ (at_columns _ _ _ made.2.columns (stands_for_set_up made.2) _ c.prove_with_preprocessed.ensures.made) c.prove_with_preprocessed.ensures.complete
