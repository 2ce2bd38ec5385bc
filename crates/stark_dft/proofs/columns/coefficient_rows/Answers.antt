use Rattle.std.proofs.Common.{rules, ◌≡◌, ◌∙◌, ◌++◌, ap, sym, arith, map, append-nil}
use Rattle.std.proofs.lemmas.List.{drop_all}
use Rattle.stark_dft.specs.Columns.{column_list}
use Rattle.stark_dft.specs.Passes.{entry}
use Rattle.stark_dft.specs.ColumnFacts.{one_more_place, one_more_number}
use Rattle.stark_dft.proofs.columns.coefficient_rows.Goals as goal

pub loop-place-init : goal.loop-place-init
loop-place-init g c = record {
  number = search rules;
  each = λ t k below inside. absurd (omega arith);
}

pub loop-place-preserved : goal.loop-place-preserved
loop-place-preserved g c =
    let ring = g.F.Field.ring in
    let row = map (λ column. entry ring column.items c.loop-place.place) c.args.columns.now in
    let whole : c.loop-column.rows.items ≡ c.loop-place.rows.items ++ row =
    sym (append-nil c.loop-column.rows.items) ∙ ap (λ t. c.loop-column.rows.items ++ map (λ column. entry ring column.items c.loop-place.place) t) (sym (drop_all c.loop-column.column-index c.args.columns.now c.loop-column-test.false)) ∙ c.loop-column.invariant in
    record {
      number = one_more_number g.met.F.Field.field_laws.of_ring column_list c.args.columns.now c.loop-place.place c.loop-place.rows.items c.loop-column.rows.items whole c.loop-place.invariant.number;
      each = one_more_place g.met.F.Field.field_laws.of_ring column_list c.args.columns.now c.loop-place.place c.loop-place.rows.items c.loop-column.rows.items whole c.loop-place.invariant.number c.loop-place.invariant.each;
    }
