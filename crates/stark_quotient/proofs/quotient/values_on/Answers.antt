use Rattle.std.proofs.Common.{◌∙◌, ◌<◌, ◌+◌, ◌-◌, ◌++◌, ap, arith, rules, subst, sym, take}
use Rattle.stark_quotient.proofs.PointSteps.{more_quotients, power_room, some_power}
use Rattle.stark_quotient.proofs.quotient.values_on.Goals as goal

pub overflow_add-start : goal.overflow_add-start
overflow_add-start g c =
    let packed = g.met.G.PackedAbove.PackedValue.lane_by_lane in
    let width = power_room c.WIDTH-start.result packed.exponent (c.WIDTH-start.ensures ∙ packed.power_of_two) (omega (arith, c.WIDTH-start.type_inv)) in
    record { fits = omega (arith, width, c.requires.placed.room, c.loop-start-test.true) }

pub loop-start-smaller : goal.loop-start-smaller
loop-start-smaller g c =
    let packed = g.met.G.PackedAbove.PackedValue.lane_by_lane in
    let some = some_power c.WIDTH-start.result packed.exponent (c.WIDTH-start.ensures ∙ packed.power_of_two) in
    omega (arith, some, c.loop-start-test.true)

pub loop-start-preserved : goal.loop-start-preserved
loop-start-preserved g c =
    let packed = g.met.G.PackedAbove.PackedValue.lane_by_lane in
    let coset = g.SC.Pcs.Domain.PolynomialSpace.coset_of c.args.on.now.quotient_domain in
    let size = c.requires.placed.size in
    let start = c.loop-start.start in
    let before = c.loop-start.values.items in
    let lanes = g.G.PackedAbove.PackedValue.lanes c.in_ok-packed.packed in
    let width = c.WIDTH-start.ensures in (
      more_quotients _ _ _ start c.WIDTH-start.result before c.push_lanes.new.values.items lanes g.SC.Challenge.Field.ring.zero (subst (λ n. start < n) size c.loop-start-test.true) c.loop-start.invariant.0
          (packed.as_many c.in_ok-packed.packed ∙ sym width) (λ j below within. c.in_ok-packed.ensures.quotients j (subst (λ n. j < n) width below) (subst (λ n. start + j < n) (sym size) within))
          (c.in_ok-push_lanes.ensures ∙ ap (λ n. before ++ take (n - start) lanes) size),
      c.quotients_of_group.ensures.main_width ∙ c.loop-start.invariant.1,
      c.quotients_of_group.ensures.preprocessed_width ∙ c.loop-start.invariant.2,
    )

pub returns : goal.returns
returns g c = search rules
