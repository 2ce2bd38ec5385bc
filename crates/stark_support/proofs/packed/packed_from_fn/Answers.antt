use Rattle.std.proofs.Common.{◌≡◌, ◌∙◌, ap, arith}
use Rattle.stark_support.proofs.LaneSteps.{one_more_lane, first_lane}
use Rattle.stark_support.proofs.packed.packed_from_fn.Goals as goal

pub loop-lane-init : goal.loop-lane-init
loop-lane-init g c =
    let packed = g.met.P.PackedValue in
    let first = c.value_of.result in
    let filled : c.from-packed.result ≡ g.P.Algebra.operations.embed first = packed.exact_lanes (g.P.Algebra.operations.embed first) c.from-packed.result (g.met.P.Algebra.embed_stands first c.from-packed.result c.from-packed.ensures) in
    first_lane (λ k value. g.G.Fn.post c.args.value_of (k, tt) value) (g.P.PackedValue.lanes c.from-packed.result) (g.P.PackedValue.lanes c.from-packed.result) g.P.PackedValue.WIDTH packed.lane_by_lane.exponent first
    packed.lane_by_lane.power_of_two (packed.lane_by_lane.as_many c.from-packed.result) (ap g.P.PackedValue.lanes filled ∙ packed.lane_by_lane.embed first c.from-packed.result) c.value_of.ensures

pub loop-lane-preserved : goal.loop-lane-preserved
loop-lane-preserved g c =
    let lanes = g.P.PackedValue.lanes c.loop-lane.packed in
    let as_many = g.met.P.PackedValue.lane_by_lane.as_many c.loop-lane.packed in
    one_more_lane (λ k value. g.G.Fn.post c.args.value_of (k, tt) value) lanes (g.P.PackedValue.lanes c.with_lane-packed.result) c.loop-lane.lane c.value_of-in-loop-lane.result
    (omega (arith, as_many, c.WIDTH-lane-end.ensures)) c.with_lane-packed.ensures c.value_of-in-loop-lane.ensures c.loop-lane.invariant

pub returns : goal.returns
returns g c = λ lane below. c.loop-lane.invariant lane (omega (arith, c.WIDTH-lane-end.ensures, c.loop-lane-test.false))
