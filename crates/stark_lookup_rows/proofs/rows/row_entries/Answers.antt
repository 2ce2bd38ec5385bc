use Rattle.std.proofs.Common.{◌≡◌, ◌∙◌, ◌*◌, ap, arith, length, map, option_map, rules, sym}
use Rattle.stark_completeness.specs.RowCheck.{trace_in, trace_of}
use Rattle.stark_lookup_rows.specs.Cut.{entries_view, lookups_size}
use Rattle.stark_lookup_rows.proofs.FitSteps.{all_made, enough_places, laid_out_too, values_counted}
use Rattle.stark_lookup_rows.proofs.rows.row_entries.Goals as goal

pub constraint_values-requires-clause-rows : goal.constraint_values-requires-clause-rows
constraint_values-requires-clause-rows g c =
    laid_out_too c.args.own.now c.args.given.now c.in_ok-air.air c.in_ok-air.ensures (trace_of c.args.trace.now) (trace_in c.as_ref-preprocessed.result) c.args.public_values.now (ap (option_map trace_of) c.as_ref-preprocessed.ensures.value)
    g.F.TwoAdicField.TWO_ADICITY c.requires.rows

pub push_rows-requires-clause-size : goal.push_rows-requires-clause-size
push_rows-requires-clause-size g c =
    let counted : c.len-size.result ≡ length c.in_ok-air.air.list.constraints.items = search rules in
    let same : lookups_size c.args.given.now.lookups.items ≡ c.len-size.result
    = enough_places c.args.own.now c.args.given.now c.in_ok-air.air c.in_ok-air.ensures (trace_of c.args.trace.now) (trace_in c.as_ref-preprocessed.result) c.args.public_values.now (ap (option_map trace_of) c.as_ref-preprocessed.ensures.value) ∙ sym counted in
    omega (arith, same)

pub push_rows-requires-clause-number : goal.push_rows-requires-clause-number
push_rows-requires-clause-number g c =
    let counted : c.len-size.result ≡ length c.in_ok-air.air.list.constraints.items = search rules in
    ap length c.deref.ensures.value
    ∙ values_counted c.args.own.now c.args.given.now c.in_ok-air.air c.in_ok-air.ensures (trace_of c.args.trace.now) (trace_in c.as_ref-preprocessed.result) c.args.public_values.now (ap (option_map trace_of) c.as_ref-preprocessed.ensures.value) g.F.Field.ring g.F.Field.inverse_of
    g.F.TwoAdicField.root c.in_ok-values.values.items c.in_ok-values.ensures c.requires.columns g.F.TwoAdicField.TWO_ADICITY c.requires.rows
    ∙ ap (λ n. n * length c.in_ok-air.air.list.constraints.items) (sym c.height.ensures) ∙ ap (λ n. c.height.result * n) (sym counted)

pub returns : goal.returns
returns g c =
    let counted : c.len-size.result ≡ length c.in_ok-air.air.list.constraints.items = search rules in
    all_made c.args.own.now c.args.given.now c.in_ok-air.air c.in_ok-air.ensures (trace_of c.args.trace.now) (trace_in c.as_ref-preprocessed.result) c.args.public_values.now (ap (option_map trace_of) c.as_ref-preprocessed.ensures.value) g.F.Field.ring g.F.Field.inverse_of
    g.F.TwoAdicField.root c.in_ok-values.values.items c.in_ok-values.ensures c.requires.columns (map entries_view c.push_rows.new.all.items) (map entries_view c.new-all.result.items) c.deref.result.now c.len-size.result c.height.result
    (ap (map entries_view) c.new-all.ensures.items) c.deref.ensures.value counted c.height.ensures c.in_ok-push_rows.ensures
