use Rattle.std.proofs.Common.{arith}
use Rattle.stark_lookup_trace.specs.AuxiliaryColumns.{products}
use Rattle.stark_lookup_trace.proofs.SumSteps.{all_multiplied, one_more_product}
use Rattle.stark_lookup_trace.proofs.helpers.products.Goals as goal

pub loop-place-preserved : goal.loop-place-preserved
loop-place-preserved g c =
    let ring = g.K.Field.ring in
    let below = c.loop-place-test.true in
    one_more_product ring c.args.xs.now c.args.ys.now c.loop-place.all.items c.push.new.self.items (products ring c.args.xs.now c.args.ys.now) c.loop-place.place c.index-xs-place.result c.index-ys-place.result
    c.mul.result below (omega (arith, below, c.requires)) c.index-xs-place.is c.index-ys-place.is (g.met.K.Field.mul_is _ _ _ c.mul.ensures) c.in_ok-push.ensures.items c.loop-place.invariant

pub returns : goal.returns
returns g c =
    all_multiplied g.K.Field.ring c.args.xs.now c.args.ys.now c.loop-place.all.items (products g.K.Field.ring c.args.xs.now c.args.ys.now) c.loop-place.place c.loop-place-test.false c.loop-place.invariant
