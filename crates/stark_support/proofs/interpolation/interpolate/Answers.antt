use Rattle.std.proofs.Common.{◌≡◌, ◌∙◌, ◌-◌, ap, arith}
use Rattle.stark_support.specs.Ring.{difference}
use Rattle.stark_support.specs.Polynomial.{value, scaled, polynomial_sum}
use Rattle.stark_support.specs.Interpolation.{times_root}
use Rattle.stark_support.proofs.InterpolationSteps.{not_zero_here, one_more_point, one_more_factor, takes_all}
use Rattle.stark_support.proofs.interpolation.interpolate.Goals as goal

pub inverse-requires : goal.inverse-requires
inverse-requires g c =
    not_zero_here g.F.Field.ring g.F.Field.inverse_of c.args.points.now c.args.values.now (c.loop-index.index - 1) c.loop-index.index c.index-points-index.result c.index-values-index.result (omega arith) (omega arith) c.requires.same_length c.index-points-index.is
    g.met.F.Field.field_laws c.loop-index.product.items _ c.requires.distinct c.loop-index.invariant.2 (c.polynomial_value-in-loop-index.ensures ∙ ap (λ p. value g.F.Field.ring p c.index-points-index.result) c.deref-in-loop-index.ensures.value)

pub loop-index-preserved : goal.loop-index-preserved
loop-index-preserved g c =
    let ring = g.F.Field.ring in
    let x = c.index-points-index.result in
    let v = c.index-values-index.result in
    let polynomial = c.loop-index.polynomial.items in
    let product = c.loop-index.product.items in
    let at_polynomial : c.polynomial_value.result ≡ value ring polynomial x = c.polynomial_value.ensures ∙ ap (λ p. value ring p x) c.deref.ensures.value in
    let at_product : c.polynomial_value-in-loop-index.result ≡ value ring product x = c.polynomial_value-in-loop-index.ensures ∙ ap (λ p. value ring p x) c.deref-in-loop-index.ensures.value in
    let is_missing : c.sub-missing.result ≡ difference ring v (value ring polynomial x) = g.met.F.Field.sub_is _ _ _ c.sub-missing.ensures ∙ ap (difference ring v) at_polynomial in
    let is_factor : c.mul-factor.result ≡ ring.mul (difference ring v (value ring polynomial x)) (g.F.Field.inverse_of (value ring product x)) =
    g.met.F.Field.mul_is _ _ _ c.mul-factor.ensures ∙ ap (λ t. ring.mul t c.inverse.result) is_missing ∙ ap (ring.mul (difference ring v (value ring polynomial x))) (c.inverse.ensures ∙ ap g.F.Field.inverse_of at_product) in (
      omega arith,
      one_more_point ring g.F.Field.inverse_of c.args.points.now c.args.values.now (c.loop-index.index - 1) c.loop-index.index x v (omega arith) (omega arith) c.requires.same_length c.index-points-index.is
          polynomial product c.in_ok-added.added.items c.in_ok-polynomial.polynomial.items c.mul-factor.result c.index-values-index.is c.loop-index.invariant.1 c.loop-index.invariant.2 is_factor
          (c.in_ok-added.ensures ∙ ap (scaled ring c.mul-factor.result) c.deref-in-loop-index-2.ensures.value)
          (c.in_ok-polynomial.ensures ∙ ap (λ p. polynomial_sum ring p c.deref-in-loop-index-4.result.now) c.deref-in-loop-index-3.ensures.value ∙ ap (polynomial_sum ring polynomial) c.deref-in-loop-index-4.ensures.value),
      one_more_factor ring g.F.Field.inverse_of c.args.points.now c.args.values.now (c.loop-index.index - 1) c.loop-index.index x v (omega arith) (omega arith) c.requires.same_length c.index-points-index.is
          product c.in_ok-product.product.items c.loop-index.invariant.2 (c.in_ok-product.ensures ∙ ap (times_root ring x) c.deref-in-loop-index-5.ensures.value),
    )

pub returns-clause-takes : goal.returns-clause-takes
returns-clause-takes g c = takes_all g.met.F.Field.field_laws c.args.points.now c.args.values.now c.loop-index.polynomial.items c.loop-index.index c.requires.same_length c.requires.distinct (omega arith) c.loop-index.invariant.1
