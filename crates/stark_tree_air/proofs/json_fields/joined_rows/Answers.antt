use Rattle.std.proofs.Common.{◌≡◌, ◌∙◌, ◌++◌, ap, arith, length}
use Rattle.stark_tree_air.proofs.JsonSteps.{one_more_row, row_refused, row_taken, rows_taken, whole_rows}
use Rattle.stark_tree_air.proofs.json_fields.joined_rows.Goals as goal

pub returns-then-got-width-clause-joined : goal.returns-then-got-width-clause-joined
returns-then-got-width-clause-joined g c =
    row_refused (λ row. row.items) c.args.rows.now c.args.width _ c.loop-place.place c.loop-place.values.items c.loop-place.invariant.joined c.index-rows-place.result _ (omega arith) c.index-rows-place.is (λ e. absurd (omega arith)) (omega arith)

pub loop-place-preserved : goal.loop-place-preserved
loop-place-preserved g c =
    let row = c.index-rows-place.result in
    let wide : length row.items ≡ c.args.width = omega arith in
    let pushed = c.in_ok-extend_from_slice.ensures.items ∙ ap (λ xs. c.loop-place.values.items ++ xs) c.deref.ensures.value in
    record {
      joined = row_taken (λ row. row.items) c.args.rows.now c.args.width _ c.loop-place.place c.loop-place.values.items c.loop-place.invariant.joined row _ (omega arith) c.index-rows-place.is wide pushed;
      many = one_more_row c.loop-place.place c.args.width c.loop-place.values.items row.items _ c.loop-place.invariant.many wide pushed;
    }

pub returns-clause-joined : goal.returns-clause-joined
returns-clause-joined g c = rows_taken (λ row. row.items) c.args.rows.now c.args.width _ c.loop-place.place c.loop-place.values.items c.loop-place.invariant.joined (omega arith)

pub returns-clause-full_rows : goal.returns-clause-full_rows
returns-clause-full_rows g c = whole_rows _ c.loop-place.place c.args.width c.loop-place.invariant.many
