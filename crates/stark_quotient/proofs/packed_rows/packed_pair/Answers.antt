use Rattle.std.proofs.Common.{◌≢◌, ◌∙◌, ◌+◌, ◌++◌, ◌/◌, ◌%◌, ap, arith, length}
use Rattle.stark_support.proofs.CellSteps.{reduced}
use Rattle.stark_quotient.proofs.LaneRows.{rows_in_lane}
use Rattle.stark_quotient.proofs.packed_rows.packed_pair.Goals as goal

pub returns-in_ok-extend_from_slice-in-Some-clause-lanes : goal.returns-in_ok-extend_from_slice-in-Some-clause-lanes
returns-in_ok-extend_from_slice-in-Some-clause-lanes g c = λ i below.
    let matrix = c.in-Some.matrix.now in
    let height = length matrix.values.items / matrix.width in
    let some = (rw c.in-Some.is at c.requires.rows) (let wide : matrix.width ≢ 0 = omega (arith, c.if-matrix-gt0.true) in wide) in
    let first = c.in_ok-vertically_packed_row_into-in-Some.ensures in
    let next = c.in_ok-vertically_packed_row_into-in-Some-2.ensures in
    rw c.in-Some.is
    (rows_in_lane g.P.PackedValue.lanes g.F.Field.ring.zero i matrix.values.items matrix.width ((c.args.r + i) % height) ((c.args.r + c.args.step + i) % height)
    c.extend_from_slice.new.self.items c.vertically_packed_row_into.new.packed.items c.vertically_packed_row_into-in-Some.new.packed.items
    (c.in_ok-extend_from_slice-in-Some.ensures.items ∙ ap (λ l. c.vertically_packed_row_into.new.packed.items ++ l) c.as_slice.ensures.value) first.number next.number (reduced (c.args.r + i) height some) (reduced (c.args.r + c.args.step + i) height some)
    (λ k p read. first.lanes k p read i below) (λ k p read. next.lanes k p read i below))
