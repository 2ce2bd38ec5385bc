use Rattle.std.proofs.Common.{ap, length, map, refl, ◌∙◌}
use Rattle.std.specs.List.{flat_map}
use Rattle.stark_answers.specs.CheckedAir.{checked_air}
use Rattle.stark_commands.specs.TraceInput.{trace_numbers}
use Rattle.stark_commands.proofs.Proved.{proved_shaped, unproved_unshaped}
use Rattle.stark_answers.proofs.TraceSteps.{same_trace, trace_fits, trace_rows, values_whole}
use Rattle.stark_answers.specs.declared.finding.Finding.TheVariants as finding
use Rattle.stark_commands.proofs.prove.prove_read.Goals as goal

pub returns-in_default : goal.returns-in_default
returns-in_default g c = unproved_unshaped _ _ _ _ _ _ _ _ c.args.shape (trace_numbers c.args.input) _ c.requires.shape (c.in_default.ensures.none refl) (c.as_finding.ensures ∙ ap (λ v. finding.Verdict v) c.unfit_trace.ensures)

pub new-trace-requires : goal.new-trace-requires
new-trace-requires g c = values_whole c.args.shape c.args.log_rows 12 (trace_numbers c.args.input).rows (trace_numbers c.args.input).public_values _ c.in-Some.ensures.some c.in-Ok.values.items (c.in-Ok.ensures ∙ ap (λ rows. flat_map (λ row. row) (map (λ row. row.items) rows)) c.deref.ensures.value)

pub prove_by-requires-clause-fitting : goal.prove_by-requires-clause-fitting
prove_by-requires-clause-fitting g c =
    trace_fits c.args.shape c.args.log_rows 12 (trace_numbers c.args.input).rows (trace_numbers c.args.input).public_values _ c.in-Some.ensures.some (g.A.BaseAir.layout c.args.air.now) c.new-trace.result.width _ c.new-trace.result.values.items c.requires.columns
    (ap (λ s. s.width) c.requires.shape) (ap (λ s. s.num_public_values) c.requires.shape) (ap (λ s. s.preprocessed_width) c.requires.shape) c.new-trace.ensures.width
    (ap (λ v. v.items) c.new-trace.ensures.values ∙ c.in-Ok.ensures ∙ ap (λ rows. flat_map (λ row. row) (map (λ row. row.items) rows)) c.deref.ensures.value) (ap (λ xs. length xs) c.deref-2.ensures.value)

pub returns : goal.returns
returns g c =
    let values = (ap (λ v. v.items) c.new-trace.ensures.values ∙ c.in-Ok.ensures ∙ ap (λ rows. flat_map (λ row. row) (map (λ row. row.items) rows)) c.deref.ensures.value) in
    proved_shaped _ _ _ _ _ _ _ (checked_air (g.A.BaseAir.layout c.args.air.now) (g.A.BaseAir.main_next_row_columns c.args.air.now) (g.A.BaseAir.periodic_columns c.args.air.now) (g.A.BaseAir.degree_hint c.args.air.now) (g.A.Air.constraints c.args.air.now) (g.A.BaseAir.preprocessed_trace c.args.air.now) (g.A.BaseAir.preprocessed_next_row_columns c.args.air.now)) c.args.shape (trace_numbers c.args.input) c.in-Some._log_height _ c.deref-2.result.now _ c.requires.shape c.in-Some.ensures.some
    (same_trace c.new-trace.result.width _ c.new-trace.result.values.items _ (c.new-trace.ensures.width ∙ ap (λ s. s.width) c.requires.shape) values) c.deref-2.ensures.value
    (c.prove_by.ensures c.in-Some._log_height (trace_rows c.args.shape c.args.log_rows 12 (trace_numbers c.args.input).rows (trace_numbers c.args.input).public_values _ c.in-Some.ensures.some c.new-trace.result.width c.new-trace.result.values.items c.new-trace.ensures.width values))
