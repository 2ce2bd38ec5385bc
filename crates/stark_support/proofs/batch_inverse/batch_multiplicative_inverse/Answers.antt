use Rattle.std.proofs.lemmas.Grind.{common_steps}
use Rattle.std.proofs.Common.{◌≡◌, ◌≢◌, ◌∙◌, option_map, subst, ◌-◌, ◌+◌, [], Some, ap, sym, arith, drop, length, map}
use Rattle.std.specs.List.{slice_get}
use Rattle.std.proofs.lemmas.Option.{get_or_from_slice_get, slice_get-map, slice_get-get_or}
use Rattle.stark_support.specs.Products.{list_product}
use Rattle.stark_support.proofs.Coordinates.{one_more_pushed}
use Rattle.stark_support.proofs.InverseSteps.{next_inverse, next_left, product_from, product_not_zero}
use Rattle.stark_support.proofs.batch_inverse.batch_multiplicative_inverse.Goals as goal

pub inverse-inverse-requires : goal.inverse-inverse-requires
inverse-inverse-requires g c = λ e. product_not_zero g.met.F.Field.field_laws c.args.values.now c.requires (sym c.in_ok-behind.ensures.product ∙ e)

pub loop-index-init : goal.loop-index-init
loop-index-init g c =
    let laws = g.met.F.Field.field_laws in
    let ring = g.F.Field.ring in
    let all = list_product ring c.args.values.now in (
      c.in_ok-inverses.ensures.items,
      laws.of_ring.mul_comm c.inverse-inverse.result all ∙ ap (ring.mul all) (c.inverse-inverse.ensures ∙ ap g.F.Field.inverse_of c.in_ok-behind.ensures.product) ∙
          laws.mul_inverse all (product_not_zero laws c.args.values.now c.requires),
    )

pub loop-index-preserved : goal.loop-index-preserved
loop-index-preserved g c =
    let laws = g.met.F.Field.field_laws in
    let ring = g.F.Field.ring in
    let values = c.args.values.now in
    let i = c.loop-index.index in
    let x = c.index-values-index.result in
    let below = c.loop-index-test.true in
    let count = length values - 1 - i in
    let behind = c.in_ok-behind.ensures.rests in
    let place : length values - count ≡ i + 1 = omega (arith, below) in
    let rest : c.index.result.now ≡ list_product ring (drop (i + 1) values) = c.index.ensures ∙ get_or_from_slice_get c.in_ok-behind.behind.rests.items count (list_product ring (drop (length values - count) values)) c.index.result.now
    (behind.at_count count (omega (arith, below))) ∙ ap (λ k. list_product ring (drop k values)) place in
    let left = product_from ring values i (i + 1) x (omega arith) (omega (arith, below)) c.index-values-index.is in
    let nonzero = subst (λ y. y ≢ ring.zero) (sym c.index-values-index.is) (c.requires i x below) in
    let inverse : c.mul.result ≡ g.F.Field.inverse_of x = g.met.F.Field.mul_is _ _ _ c.mul.ensures ∙ ap (ring.mul c.loop-index.inverse) rest ∙
    next_inverse laws c.loop-index.inverse x (list_product ring (drop (i + 1) values)) (list_product ring (drop i values)) nonzero left c.loop-index.invariant.1 in
    let there : slice_get (map g.F.Field.inverse_of values) i ≡ Some c.mul.result = slice_get-map g.F.Field.inverse_of values i ∙ ap (option_map g.F.Field.inverse_of) (slice_get-get_or values i x below ∙ ap Some (sym c.index-values-index.is)) ∙ ap Some (sym inverse) in (
      one_more_pushed c.push.new.self.items c.loop-index.inverses.items [] (map g.F.Field.inverse_of values) i c.mul.result c.in_ok-push.ensures.items c.loop-index.invariant.0 there,
      ap (λ y. ring.mul y (list_product ring (drop (i + 1) values))) (g.met.F.Field.mul_is _ _ _ c.mul-inverse.ensures) ∙
          next_left laws c.loop-index.inverse x (list_product ring (drop (i + 1) values)) (list_product ring (drop i values)) left c.loop-index.invariant.1,
    )

pub returns : goal.returns
returns g c = grind (arith, common_steps)
