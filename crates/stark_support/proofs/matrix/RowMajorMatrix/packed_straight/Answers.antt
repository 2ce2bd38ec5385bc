use Rattle.std.proofs.Common.{◌≡◌, ◌∙◌, ◌<◌, ◌+◌, ◌*◌, ◌/◌, Some, ap, arith, length, subst, sym}
use Rattle.std.specs.List.{slice_get}
use Rattle.stark_support.proofs.CellSteps.{cell_within, first_row_there, value_at}
use Rattle.stark_support.proofs.LaneSteps.{one_more_lane, first_lane}
use Rattle.stark_support.proofs.matrix.RowMajorMatrix.packed_straight.Goals as goal

pub index-requires : goal.index-requires
index-requires g c =
    let many = g.met.P.PackedValue.lane_by_lane in
    let count = length c.args.self.now.values.items in
    let among = first_row_there c.args.r g.P.PackedValue.WIDTH many.exponent (count / c.args.self.now.width) many.power_of_two c.requires.rows in
    let below = cell_within c.args.r c.args.self.now.width c.args.column count among c.requires.column in
    omega (arith, below, c.args.self.now.values.ok.0)

pub loop-lane-init : goal.loop-lane-init
loop-lane-init g c =
    let packed = g.met.P.PackedValue in
    let values = c.args.self.now.values.items in
    let width = c.args.self.now.width in
    let first = c.index.result.now in
    let many = packed.lane_by_lane in
    let among = first_row_there c.args.r g.P.PackedValue.WIDTH many.exponent (length values / width) many.power_of_two c.requires.rows in
    let there = value_at values (c.args.r * width + c.args.column) ((c.args.r + 0) * width + c.args.column) first (omega arith) (cell_within c.args.r width c.args.column (length values) among c.requires.column) ∙ ap Some (sym c.index.ensures) in
    let filled : c.from-packed.result ≡ g.P.Algebra.operations.embed first = packed.exact_lanes (g.P.Algebra.operations.embed first) c.from-packed.result (g.met.P.Algebra.embed_stands first c.from-packed.result c.from-packed.ensures) in (
      omega arith,
      first_lane (λ k value. slice_get values ((c.args.r + k) * width + c.args.column) ≡ Some value) (g.P.PackedValue.lanes c.from-packed.result) (g.P.PackedValue.lanes c.from-packed.result) g.P.PackedValue.WIDTH many.exponent first
          many.power_of_two (many.as_many c.from-packed.result) (ap g.P.PackedValue.lanes filled ∙ many.embed first c.from-packed.result) there,
    )

pub index-requires-in-loop-lane : goal.index-requires-in-loop-lane
index-requires-in-loop-lane g c =
    let width = c.args.self.now.width in
    let count = length c.args.self.now.values.items in
    let among : c.args.r + c.loop-lane.lane < count / width = omega (arith, c.requires.rows, c.WIDTH-lane-end.ensures, c.loop-lane-test.true) in
    let below = cell_within (c.args.r + c.loop-lane.lane) width c.args.column count among c.requires.column in
    omega (arith, below, c.loop-lane.invariant.0, c.args.self.now.values.ok.0)

pub loop-lane-preserved : goal.loop-lane-preserved
loop-lane-preserved g c =
    let values = c.args.self.now.values.items in
    let width = c.args.self.now.width in
    let lane = c.loop-lane.lane in
    let lanes = g.P.PackedValue.lanes c.loop-lane.packed in
    let as_many = g.met.P.PackedValue.lane_by_lane.as_many c.loop-lane.packed in
    let among : c.args.r + lane < length values / width = omega (arith, c.requires.rows, c.WIDTH-lane-end.ensures, c.loop-lane-test.true) in
    let below = subst (λ n. n < length values) (sym c.loop-lane.invariant.0) (cell_within (c.args.r + lane) width c.args.column (length values) among c.requires.column) in
    let there = value_at values (c.loop-lane.place + width) ((c.args.r + lane) * width + c.args.column) c.index-in-loop-lane.result.now c.loop-lane.invariant.0 below ∙ ap Some (sym c.index-in-loop-lane.ensures) in (
      omega (arith, c.loop-lane.invariant.0),
      one_more_lane (λ k value. slice_get values ((c.args.r + k) * width + c.args.column) ≡ Some value) lanes (g.P.PackedValue.lanes c.with_lane-packed.result) lane c.index-in-loop-lane.result.now
          (omega (arith, as_many, c.WIDTH-lane-end.ensures, c.loop-lane-test.true)) c.with_lane-packed.ensures there c.loop-lane.invariant.1,
    )

pub returns : goal.returns
returns g c i below = let obtained = c.loop-lane.invariant.1 i (omega (arith, below, c.WIDTH-lane-end.ensures, c.loop-lane-test.false)) in obtained.2 ∙ sym obtained.1
