use Rattle.std.proofs.Common.{◌≡◌, ◌∙◌, ◌++◌, ap, arith, length, min, take}
use Rattle.std.proofs.lemmas.List.{take_min}
use Rattle.stark_support.proofs.Coordinates.{one_more_pushed}
use Rattle.stark_quotient.proofs.packed_rows.push_lanes.Goals as goal

pub loop-lane-preserved : goal.loop-lane-preserved
loop-lane-preserved g c =
    one_more_pushed c.push.new.self.items c.loop-lane.values.items c.args.values.now.items (g.P.PackedValue.lanes c.args.packed.now) c.loop-lane.lane c.extract.result
    c.in_ok-push.ensures.items c.loop-lane.invariant c.extract.ensures

pub returns : goal.returns
returns g c =
    let lanes = g.P.PackedValue.lanes c.args.packed.now in
    let before = c.args.values.now.items in
    let many = g.met.P.PackedValue.lane_by_lane.as_many c.args.packed.now in
    let ended : c.loop-lane.lane ≡ min c.args.count (length lanes) = omega (arith, many, c.loop-lane-test.false, c.min-lane-end.ensures, c.WIDTH.ensures) in
    c.loop-lane.invariant ∙ ap (λ n. before ++ take n lanes) ended ∙ ap (λ l. before ++ l) (take_min c.args.count lanes)
