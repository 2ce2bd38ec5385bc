use Rattle.std.proofs.Common.{◌≢◌, ◌∙◌, ◌^◌, ap, inl, map, refl, sym, ℕ, vec_len}
use Rattle.std.proofs.lemmas.Bool.{false≢true}
use Rattle.stark_support.specs.Coset.{TwoAdicCoset}
use Rattle.stark_commands.specs.Input.{Base, elements}
use Rattle.stark_commands.specs.Check.{vanishing}
use Rattle.stark_commands.specs.Numbers.{numbers}
use Rattle.stark_answers.specs.CheckedAir.{checked_air}
use Rattle.stark_commands.proofs.PointSteps.{coset_vanishing_is, fault_of_columns, found_equation, found_fault, found_inside}
use Rattle.stark_commands.proofs.check.check_point.Goals as goal

pub check_columns-requires-clause-outside : goal.check_columns-requires-clause-outside
check_columns-requires-clause-outside g c = λ inside.
    false≢true (c.if-vanishes_at.ensures.1 (coset_vanishing_is (checked_air (g.A.BaseAir.layout c.args.air.now) (g.A.BaseAir.main_next_row_columns c.args.air.now) (g.A.BaseAir.periodic_columns c.args.air.now) (g.A.BaseAir.degree_hint c.args.air.now) (g.A.Air.constraints c.args.air.now) (g.A.BaseAir.preprocessed_trace c.args.air.now) (g.A.BaseAir.preprocessed_next_row_columns c.args.air.now)) (numbers c.args.input.now) _ c.requires.trace ∙ inside))

pub check_columns-requires-clause-columns : goal.check_columns-requires-clause-columns
check_columns-requires-clause-columns g c = ap (map (λ column. column.items)) c.in-Ok.ensures.columns ∙ c.periodic_columns.ensures

pub check_columns-requires-clause-trace_len : goal.check_columns-requires-clause-trace_len
check_columns-requires-clause-trace_len g c =
    c.in-Ok.ensures.trace_len ∙ c.size.ensures ∙ ap (λ (k : ℕ). 2 ^ k) (ap (λ (d : TwoAdicCoset Base). d.log_size) c.requires.trace)

pub returns-then-vanishes_at : goal.returns-then-vanishes_at
returns-then-vanishes_at g c =
    inl (found_inside (checked_air (g.A.BaseAir.layout c.args.air.now) (g.A.BaseAir.main_next_row_columns c.args.air.now) (g.A.BaseAir.periodic_columns c.args.air.now) (g.A.BaseAir.degree_hint c.args.air.now) (g.A.Air.constraints c.args.air.now) (g.A.BaseAir.preprocessed_trace c.args.air.now) (g.A.BaseAir.preprocessed_next_row_columns c.args.air.now)) c.args.domains.now.log_chunks (numbers c.args.input.now)
    (sym (coset_vanishing_is (checked_air (g.A.BaseAir.layout c.args.air.now) (g.A.BaseAir.main_next_row_columns c.args.air.now) (g.A.BaseAir.periodic_columns c.args.air.now) (g.A.BaseAir.degree_hint c.args.air.now) (g.A.Air.constraints c.args.air.now) (g.A.BaseAir.preprocessed_trace c.args.air.now) (g.A.BaseAir.preprocessed_next_row_columns c.args.air.now)) (numbers c.args.input.now) _ c.requires.trace) ∙ c.if-vanishes_at.ensures.0 refl))

pub returns-in-Ok : goal.returns-in-Ok
returns-in-Ok g c =
    let m = numbers c.args.input.now in
    let outside : vanishing m ≢ elements.zero = λ inside. false≢true (c.if-vanishes_at.ensures.1 (coset_vanishing_is (checked_air (g.A.BaseAir.layout c.args.air.now) (g.A.BaseAir.main_next_row_columns c.args.air.now) (g.A.BaseAir.periodic_columns c.args.air.now) (g.A.BaseAir.degree_hint c.args.air.now) (g.A.Air.constraints c.args.air.now) (g.A.BaseAir.preprocessed_trace c.args.air.now) (g.A.BaseAir.preprocessed_next_row_columns c.args.air.now)) m _ c.requires.trace ∙ inside)) in
    found_equation (checked_air (g.A.BaseAir.layout c.args.air.now) (g.A.BaseAir.main_next_row_columns c.args.air.now) (g.A.BaseAir.periodic_columns c.args.air.now) (g.A.BaseAir.degree_hint c.args.air.now) (g.A.Air.constraints c.args.air.now) (g.A.BaseAir.preprocessed_trace c.args.air.now) (g.A.BaseAir.preprocessed_next_row_columns c.args.air.now)) c.args.domains.now.log_chunks m outside
    (sym (fault_of_columns (checked_air (g.A.BaseAir.layout c.args.air.now) (g.A.BaseAir.main_next_row_columns c.args.air.now) (g.A.BaseAir.periodic_columns c.args.air.now) (g.A.BaseAir.degree_hint c.args.air.now) (g.A.Air.constraints c.args.air.now) (g.A.BaseAir.preprocessed_trace c.args.air.now) (g.A.BaseAir.preprocessed_next_row_columns c.args.air.now)) m (λ column. column.items) c.periodic_columns.result.now c.periodic_columns.ensures vec_len (λ column. column.ok.0) c.size.result
    (c.size.ensures ∙ ap (λ (k : ℕ). 2 ^ k) (ap (λ (d : TwoAdicCoset Base). d.log_size) c.requires.trace))) ∙ c.in-Ok.ensures.fault)
    c.check_columns.result c.check_columns.ensures

pub returns-in-Err : goal.returns-in-Err
returns-in-Err g c =
    let m = numbers c.args.input.now in
    let outside : vanishing m ≢ elements.zero = λ inside. false≢true (c.if-vanishes_at.ensures.1 (coset_vanishing_is (checked_air (g.A.BaseAir.layout c.args.air.now) (g.A.BaseAir.main_next_row_columns c.args.air.now) (g.A.BaseAir.periodic_columns c.args.air.now) (g.A.BaseAir.degree_hint c.args.air.now) (g.A.Air.constraints c.args.air.now) (g.A.BaseAir.preprocessed_trace c.args.air.now) (g.A.BaseAir.preprocessed_next_row_columns c.args.air.now)) m _ c.requires.trace ∙ inside)) in
    inl (found_fault (checked_air (g.A.BaseAir.layout c.args.air.now) (g.A.BaseAir.main_next_row_columns c.args.air.now) (g.A.BaseAir.periodic_columns c.args.air.now) (g.A.BaseAir.degree_hint c.args.air.now) (g.A.Air.constraints c.args.air.now) (g.A.BaseAir.preprocessed_trace c.args.air.now) (g.A.BaseAir.preprocessed_next_row_columns c.args.air.now)) c.args.domains.now.log_chunks m outside _
    (sym (fault_of_columns (checked_air (g.A.BaseAir.layout c.args.air.now) (g.A.BaseAir.main_next_row_columns c.args.air.now) (g.A.BaseAir.periodic_columns c.args.air.now) (g.A.BaseAir.degree_hint c.args.air.now) (g.A.Air.constraints c.args.air.now) (g.A.BaseAir.preprocessed_trace c.args.air.now) (g.A.BaseAir.preprocessed_next_row_columns c.args.air.now)) m (λ column. column.items) c.periodic_columns.result.now c.periodic_columns.ensures vec_len (λ column. column.ok.0) c.size.result
    (c.size.ensures ∙ ap (λ (k : ℕ). 2 ^ k) (ap (λ (d : TwoAdicCoset Base). d.log_size) c.requires.trace))) ∙ c.in-Err.ensures.fault))
