use Rattle.std.proofs.Common.{◌+◌, ◌*◌, arith, refl}
use Rattle.std.proofs.lemmas.Option.{slice_get_read}
use Rattle.stark_dft.specs.SplitFacts.{same_picked, one_more_picked}
use Rattle.stark_dft.proofs.columns.picked_rows.Goals as goal

pub loop-column-preserved : goal.loop-column-preserved
loop-column-preserved g c =
    let place = c.args.first + c.loop-column.column + c.loop-row.row * c.args.step in
    same_picked c.args.values.now c.args.first c.args.step c.args.width (c.loop-row.row * c.args.width + c.loop-column.column + 1) (c.loop-row.row * c.args.width + (c.loop-column.column + 1)) c.push.new.self.items (omega arith)
    (one_more_picked c.args.values.now c.args.first c.args.step c.args.width c.loop-row.row c.loop-column.column (c.loop-row.row * c.args.width + c.loop-column.column) c.loop-column.rows.items c.push.new.self.items c.index-values-first.result
    c.loop-column-test.true refl (slice_get_read c.args.values.now _ place c.index-values-first.result refl (c.requires c.loop-column.column c.loop-row.row c.loop-column-test.true c.loop-row-test.true) c.index-values-first.is)
    c.in_ok-push.ensures.items c.loop-column.invariant)
