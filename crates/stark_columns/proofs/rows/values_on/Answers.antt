use Rattle.std.proofs.Common.{◌≡◌, ◌∙◌, ◌++◌, ap, sym, map, append-nil}
use Rattle.std.proofs.lemmas.List.{drop_all}
use Rattle.std.proofs.lemmas.Simd.{map-map}
use Rattle.stark_support.specs.Polynomial.{value}
use Rattle.stark_support.specs.Scheme.{row_at}
use Rattle.stark_columns.specs.Columns.{column_list}
use Rattle.stark_columns.specs.OpenedFacts.{one_more_row}
use Rattle.stark_columns.proofs.rows.values_on.Goals as goal

pub loop-point-preserved : goal.loop-point-preserved
loop-point-preserved g c =
    let whole : c.loop-column.values.items ≡ c.loop-point.values.items ++ map (λ column. value g.F.Field.ring column.items c.point-item.result) c.args.columns.now =
    sym (append-nil c.loop-column.values.items) ∙ ap (λ t. c.loop-column.values.items ++ map (λ column. value g.F.Field.ring column.items c.point-item.result) t) (sym (drop_all c.loop-column.column-index c.args.columns.now c.loop-column-test.false)) ∙ c.loop-column.invariant in
    one_more_row (row_at g.F.Field.ring (λ x. x) (map column_list c.args.columns.now)) c.args.points.now c.loop-point.point-index c.point-item.result c.loop-point.values.items c.loop-column.values.items _
    c.loop-point-test.true c.point-item.is (whole ∙ ap (λ t. c.loop-point.values.items ++ t) (sym (map-map (λ p. value g.F.Field.ring p c.point-item.result) column_list c.args.columns.now))) c.loop-point.invariant
