use Rattle.std.proofs.Common.{◌∙◌, ◌-◌, ap, sym, arith, rules}
use Rattle.stark_support.specs.Polynomial.{value_over}
use Rattle.stark_support.proofs.Places.{from_place}
use Rattle.stark_support.proofs.polynomial.polynomial_value_in.Goals as goal

pub loop-index-preserved : goal.loop-index-preserved
loop-index-preserved g c =
    let ring = g.EF.Field.ring in
    let field = g.met.EF.Field in (
      omega arith,
      field.add_is _ _ _ c.add-result.ensures ∙ ap (λ t. ring.add t c.mul.result) c.from_base.ensures
          ∙ ap (ring.add (g.EF.ExtensionField.embed c.index-coefficients-index.result)) (field.mul_is _ _ _ c.mul.ensures ∙ ap (λ t. ring.mul t c.args.point) c.loop-index.invariant.1)
          ∙ ap (λ t. value_over ring g.EF.ExtensionField.embed t c.args.point) (sym (from_place c.args.coefficients.now (c.loop-index.index - 1) c.loop-index.index c.index-coefficients-index.result (omega arith) (omega arith) c.index-coefficients-index.is)),
    )

pub returns : goal.returns
returns g c = search rules
