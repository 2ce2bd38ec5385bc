use Rattle.std.proofs.Common.{◌≡◌, ◌<◌, ◌++◌, ◌∷◌, [], refl, sym, ap, ◌∙◌, length, subst, length-append, arith}
use Rattle.json.specs.Token.{end_array}
use Rattle.stark_trace_json.specs.Scanned.{AreRowsAhead, HasRow, HasTable, IsTable, ahead}
use Rattle.stark_trace_json.proofs.Tables.{row_behind, row_more, some_holds}
use Rattle.stark_trace_json.proofs.table.read_table.Goals as goal

pub loop-height-init : goal.loop-height-init
unfolding AreRowsAhead
loop-height-init g c = ([], record { values = c.with_room-values.ensures; height = refl; width = refl; even = refl }, refl)

pub returns-in-Some-close : goal.returns-in-Some-close
unfolding HasTable IsTable
returns-in-Some-close g c =
    let rows = c.loop-height.invariant.0 in
    let last : ahead c.loop-height.scanner ≡ end_array ∷ [] = c.in-Some-close.ensures ∙ ap (λ ts. end_array ∷ ts) (c.if-not-is_at_end.ensures refl) in (
      rows,
      c.loop-height.invariant.1,
      (ahead c.in-Some.scanner, sym c.new.ensures ∙ c.in-Some.ensures, subst (AreRowsAhead g.F.JsonCodec.reading rows (ahead c.in-Some.scanner)) last c.loop-height.invariant.2),
    )

pub loop-height-preserved : goal.loop-height-preserved
unfolding HasRow
loop-height-preserved g c =
    let old = c.loop-height in
    let rows = c.loop-height.invariant.0 in
    let read =
    some_holds (λ rest. HasRow g.F.JsonCodec.reading old.values.items c.read_row.new.values.items (ahead old.scanner) (ahead rest)) c.in_ok-rest.field-0 c.in-Some-2.rest c.in_ok-rest.ensures c.in-Some-2.is in
    let row = read.0 in
    let long : c.in-Some-common_width.common ≡ length row = omega (arith, c.in-Some-common_width.ensures.0, ap length read.1, length-append c.loop-height.values.items row) in
    let same = λ (some : 0 < c.loop-height.height). c.in-Some-common_width.ensures.1 some ∙ sym c.in-Some-common_width.ensures.0 in (
      rows ++ row ∷ [],
      row_more c.loop-height.values.items c.read_row.new.values.items row c.loop-height.height c.loop-height.width c.in-Some-common_width.common rows c.loop-height.invariant.1 read.1 long same,
      row_behind g.F.JsonCodec.reading rows row (ahead c.in-Some.scanner) (ahead c.loop-height.scanner) (ahead c.in-Some-2.rest) c.loop-height.invariant.2 read.2,
    )

pub overflow_sub-len : goal.overflow_sub-len
unfolding HasRow
overflow_sub-len g c =
    let old = c.loop-height in
    let read =
    some_holds (λ rest. HasRow g.F.JsonCodec.reading old.values.items c.read_row.new.values.items (ahead old.scanner) (ahead rest)) c.in_ok-rest.field-0 c.in-Some-2.rest c.in_ok-rest.ensures c.in-Some-2.is in
    omega (arith, ap length read.1, length-append old.values.items read.0)
