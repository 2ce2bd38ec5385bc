use Rattle.std.proofs.Common.{◌≡◌, ◌∙◌, ◌-◌, ◌+◌, ap, sym, arith, get_or, length}
use Rattle.stark_support.proofs.InverseSteps.{no_rests, nothing_behind, one_more_rest, product_from}
use Rattle.stark_support.proofs.batch_inverse.products_behind.Goals as goal

pub loop-count-init : goal.loop-count-init
loop-count-init g c =
    let ring = g.F.Field.ring in
    (c.ONE-product.ensures ∙ g.met.F.Field.one_is ∙ sym (nothing_behind ring c.args.values.now), no_rests ring c.args.values.now c.in_ok-rests.rests.items c.in_ok-rests.ensures.items)

pub loop-count-preserved : goal.loop-count-preserved
loop-count-preserved g c =
    let ring = g.F.Field.ring in
    let values = c.args.values.now in
    let x = c.index-values-values.result in
    let place : length values - 1 - c.loop-count.count ≡ length values - (c.loop-count.count + 1) = omega arith in
    let is : x ≡ get_or values (length values - (c.loop-count.count + 1)) x = c.index-values-values.is ∙ ap (λ i. get_or values i x) place in
    let below = c.loop-count-test.true in (
      g.met.F.Field.mul_is _ _ _ c.mul-product.ensures ∙ ap (ring.mul x) c.loop-count.invariant.0 ∙
          sym (product_from ring values (length values - (c.loop-count.count + 1)) (length values - c.loop-count.count) x (omega (arith, below)) (omega (arith, below)) is),
      one_more_rest ring values c.loop-count.count c.loop-count.rests.items c.push.new.self.items c.loop-count.product c.loop-count.invariant.1 c.in_ok-push.ensures.items c.loop-count.invariant.0,
    )
