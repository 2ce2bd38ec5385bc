use Rattle.std.proofs.Common.{◌∙◌, ◌^◌, ap, arith, length, map, sym, ℕ}
use Rattle.std.proofs.lemmas.List.{length-map, length-replicate}
use Rattle.stark_support.specs.Coset.{TwoAdicCoset}
use Rattle.stark_commands.specs.Input.{Base, elements, zeros}
use Rattle.stark_commands.specs.Numbers.{numbers}
use Rattle.stark_answers.specs.CheckedAir.{checked_air, shape_of}
use Rattle.stark_commands.proofs.PointSteps.{chunks_of_four, outside_coset, rows_cover, stated_at_zeta, widths_of}
use Rattle.stark_commands.proofs.check.check_columns.Goals as goal

pub equation_over-requires-clause-trace_len : goal.equation_over-requires-clause-trace_len
equation_over-requires-clause-trace_len g c = c.requires.trace_len ∙ ap (λ (k : ℕ). 2 ^ k) (sym (ap (λ (d : TwoAdicCoset Base). d.log_size) c.requires.cut.trace))

pub equation_over-requires-clause-number : goal.equation_over-requires-clause-number
equation_over-requires-clause-number g c = ap length c.deref-6.ensures.value ∙ sym (length-map _ (λ chunk. chunk.items)) ∙ c.requires.cut.chunks

pub equation_over-requires-clause-within : goal.equation_over-requires-clause-within
equation_over-requires-clause-within g c = omega (arith, ap (λ (d : TwoAdicCoset Base). d.log_size) c.requires.cut.quotient)

pub equation_over-requires-clause-dimension : goal.equation_over-requires-clause-dimension
equation_over-requires-clause-dimension g c =
    chunks_of_four (λ chunk. chunk.items) _ (λ chunk. chunk.ok.0) c.args.input.now.chunks.items c.deref-6.result.now c.deref-6.ensures.value (widths_of (shape_of (checked_air (g.A.BaseAir.layout c.args.air.now) (g.A.BaseAir.main_next_row_columns c.args.air.now) (g.A.BaseAir.periodic_columns c.args.air.now) (g.A.BaseAir.degree_hint c.args.air.now) (g.A.Air.constraints c.args.air.now) (g.A.BaseAir.preprocessed_trace c.args.air.now) (g.A.BaseAir.preprocessed_next_row_columns c.args.air.now))) (numbers c.args.input.now) c.requires.cut.shape).chunks

pub equation_over-requires-clause-subgroup : goal.equation_over-requires-clause-subgroup
equation_over-requires-clause-subgroup g c = ap (λ (d : TwoAdicCoset Base). d.shift) c.requires.cut.trace

pub equation_over-requires-clause-outside : goal.equation_over-requires-clause-outside
equation_over-requires-clause-outside g c = outside_coset (checked_air (g.A.BaseAir.layout c.args.air.now) (g.A.BaseAir.main_next_row_columns c.args.air.now) (g.A.BaseAir.periodic_columns c.args.air.now) (g.A.BaseAir.degree_hint c.args.air.now) (g.A.Air.constraints c.args.air.now) (g.A.BaseAir.preprocessed_trace c.args.air.now) (g.A.BaseAir.preprocessed_next_row_columns c.args.air.now)) (numbers c.args.input.now) _ c.requires.cut.trace c.requires.outside

pub equation_over-requires-clause-one_width : goal.equation_over-requires-clause-one_width
equation_over-requires-clause-one_width g c =
    ap length c.deref-3.ensures.value ∙ (widths_of (shape_of (checked_air (g.A.BaseAir.layout c.args.air.now) (g.A.BaseAir.main_next_row_columns c.args.air.now) (g.A.BaseAir.periodic_columns c.args.air.now) (g.A.BaseAir.degree_hint c.args.air.now) (g.A.Air.constraints c.args.air.now) (g.A.BaseAir.preprocessed_trace c.args.air.now) (g.A.BaseAir.preprocessed_next_row_columns c.args.air.now))) (numbers c.args.input.now) c.requires.cut.shape).preprocessed_local ∙ sym c.preprocessed_width.ensures ∙
    sym (ap length (c.deref-4.ensures.value ∙ c.in-Ok.ensures) ∙ length-replicate c.preprocessed_width.result elements.zero)

pub equation_over-requires-clause-widths : goal.equation_over-requires-clause-widths
equation_over-requires-clause-widths g c = λ periodic counted.
    let widths = widths_of (shape_of (checked_air (g.A.BaseAir.layout c.args.air.now) (g.A.BaseAir.main_next_row_columns c.args.air.now) (g.A.BaseAir.periodic_columns c.args.air.now) (g.A.BaseAir.degree_hint c.args.air.now) (g.A.Air.constraints c.args.air.now) (g.A.BaseAir.preprocessed_trace c.args.air.now) (g.A.BaseAir.preprocessed_next_row_columns c.args.air.now))) (numbers c.args.input.now) c.requires.cut.shape in
    rows_cover (g.A.BaseAir.layout c.args.air.now) _ (g.A.BaseAir.periodic_columns c.args.air.now) _ _ _ (g.met.A.BaseAir.as_declared c.args.air.now)
    (ap length c.deref.ensures.value ∙ widths.local)
    (ap length c.deref-2.ensures.value ∙ widths.next)
    (ap length c.deref-3.ensures.value ∙ widths.preprocessed_local)
    (ap length (c.deref-4.ensures.value ∙ c.in-Ok.ensures) ∙ length-replicate c.preprocessed_width.result elements.zero ∙ c.preprocessed_width.ensures)
    (ap length c.deref-5.ensures.value ∙ widths.public_values)
    (counted ∙ sym (length-map c.args.columns.now.columns.now (λ column. column.items)) ∙ ap length c.requires.columns)

pub returns : goal.returns
returns g c =
    stated_at_zeta (checked_air (g.A.BaseAir.layout c.args.air.now) (g.A.BaseAir.main_next_row_columns c.args.air.now) (g.A.BaseAir.periodic_columns c.args.air.now) (g.A.BaseAir.degree_hint c.args.air.now) (g.A.Air.constraints c.args.air.now) (g.A.BaseAir.preprocessed_trace c.args.air.now) (g.A.BaseAir.preprocessed_next_row_columns c.args.air.now)) c.args.domains.now.log_chunks (numbers c.args.input.now) (λ column. column.items) c.args.columns.now.columns.now (λ chunk. chunk.items) c.deref-6.result.now
    _ _ c.deref.result.now c.deref-2.result.now c.deref-3.result.now c.deref-4.result.now c.deref-5.result.now c.equation_over.result
    c.requires.cut.trace c.requires.cut.quotient c.deref.ensures.value c.deref-2.ensures.value c.deref-3.ensures.value
    (c.deref-4.ensures.value ∙ c.in-Ok.ensures ∙ ap zeros c.preprocessed_width.ensures)
    c.deref-5.ensures.value c.requires.columns (ap (map (λ chunk. chunk.items)) c.deref-6.ensures.value)
    c.equation_over.ensures
