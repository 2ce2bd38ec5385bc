use Rattle.std.proofs.Common.{◌∙◌, ◌++◌, ap, arith, sym}
use Rattle.std.proofs.lemmas.List.{set-append_left, set-append_right}
use Rattle.stark_support.proofs.vectorized.PackedPair2PackedValue.with_lane.Goals as goal

pub returns-then-lane-WIDTH : goal.returns-then-lane-WIDTH
returns-then-lane-WIDTH g c =
    let lanes = g.P.PackedValue.lanes in
    let first = lanes c.args.self.first in
    let second = lanes c.args.self.second in
    let many = g.met.P.PackedValue.lane_by_lane.as_many c.args.self.first in
    ap (λ l. l ++ second) c.with_lane.ensures ∙ sym (set-append_left first second c.args.lane c.args.value (omega (arith, many, c.WIDTH.ensures, c.if-lane-WIDTH.true)))

pub returns-else-lane-WIDTH : goal.returns-else-lane-WIDTH
returns-else-lane-WIDTH g c =
    let lanes = g.P.PackedValue.lanes in
    let first = lanes c.args.self.first in
    let second = lanes c.args.self.second in
    let many = g.met.P.PackedValue.lane_by_lane.as_many c.args.self.first in
    let same = c.WIDTH-else-lane-WIDTH.ensures in
    ap (λ l. first ++ l) c.with_lane-else-lane-WIDTH.ensures ∙
    sym (set-append_right first second c.WIDTH-else-lane-WIDTH.result c.args.lane c.args.value (many ∙ sym same) (omega (arith, c.WIDTH.ensures, same, c.if-lane-WIDTH.false)))
