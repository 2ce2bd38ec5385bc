use Rattle.std.proofs.Common.{◌∙◌, ap, map, sym}
use Rattle.std.specs.Vec.{vec_items}
use Rattle.std.proofs.lemmas.List.{take_all}
use Rattle.std.proofs.lemmas.Simd.{map-map}
use Rattle.stark_completeness.specs.RowCheck.{entry_in_row}
use Rattle.stark_completeness.proofs.check.periodic_entries.Goals as goal

pub returns : goal.returns
returns g c =
    let entry = entry_in_row g.F.Field.ring.zero c.args.row in
    let columns = c.args.columns.now in
    c.loop-column.invariant ∙ ap (map (λ column. entry (vec_items column))) (take_all c.loop-column.column-index columns c.loop-column-test.false) ∙ sym (map-map entry vec_items columns)
