use Rattle.std.proofs.Common.{◌≡◌, ◌∙◌, ◌^◌, ap, subst}
use Rattle.stark_support.specs.CosetFacts.{root_nonzero}
use Rattle.stark_completeness.proofs.RowCheckSteps.{as_many_ones}
use Rattle.stark_completeness.proofs.row_selectors.DomainSelectors.new.Goals as goal

pub inverse-requires : goal.inverse-requires
inverse-requires g c is_zero =
    let field = g.F.TwoAdicField in
    root_nonzero g.met.F.Field.field_laws field.TWO_ADICITY field.root g.F.Field.GENERATOR g.met.F.TwoAdicField.two_adic c.args.log_height c.requires.within (subst (λ x. x ≡ g.F.Field.ring.zero) c.two_adic_generator-generator.ensures is_zero)

pub returns : goal.returns
returns g c =
    let field = g.met.F.Field in
    let ring = g.F.Field.ring in
    let ones = as_many_ones ring c.sum_of_powers-ones.result c.ONE.result c.args.height (2 ^ c.args.log_height) c.sum_of_powers-ones.ensures (c.ONE.ensures ∙ field.one_is) c.requires.size in
    let generator = c.two_adic_generator-generator in
    record {
      generator_is = generator.ensures;
      inverse_is = c.inverse.ensures ∙ ap g.F.Field.inverse_of generator.ensures;
      first_is = ones;
      last_is = field.mul_is _ _ _ c.mul.ensures ∙ ap (λ x. ring.mul x c.sum_of_powers-ones.result) generator.ensures ∙ ap (ring.mul (g.F.TwoAdicField.root c.args.log_height)) ones;
      size = c.requires.size;
    }
