use Rattle.std.proofs.Common.{◌≡◌, ◌∙◌, sym, ap}
use Rattle.stark_verifier.proofs.PointSteps.{point_where_zero, zero_at_point}
use Rattle.stark_verifier.proofs.point.lies_in.Goals as goal

pub returns : goal.returns
returns g c =
    let field = g.met.EF.Field in
    let coset = g.D.PolynomialSpace.coset_of c.args.domains.now.trace in
    let lawful = g.met.D.PolynomialSpace.lawful c.args.domains.now.trace in
    let obtained = c.vanishing_poly_at_point.ensures in
    let value = c.vanishing_poly_at_point.result in
    let zero : c.ZERO.result ≡ g.EF.Field.ring.zero = c.ZERO.ensures ∙ field.zero_is in
    record {
      vanishing = (
        (λ stated. sym obtained ∙ field.eq_same _ _ (sym c.eq.ensures ∙ stated) ∙ zero),
        (λ e. c.eq.ensures ∙ ap (g.EF.PartialEq.eq value) (sym (obtained ∙ e ∙ sym zero)) ∙ g.met.EF.Eq.laws.refl value),
      );
      point = (
        (λ stated. point_where_zero field.field_laws g.met.EF.ExtensionField.embeds g.D.Val.TwoAdicField.TWO_ADICITY g.D.Val.TwoAdicField.root g.D.Val.Field.GENERATOR g.met.D.Val.TwoAdicField.two_adic
            coset lawful c.requires.subgroup c.args.zeta (sym obtained ∙ field.eq_same _ _ (sym c.eq.ensures ∙ stated) ∙ zero)),
        (λ point. c.eq.ensures ∙ ap (g.EF.PartialEq.eq value) (sym (obtained ∙ zero_at_point field.field_laws g.met.EF.ExtensionField.embeds g.D.Val.TwoAdicField.TWO_ADICITY g.D.Val.TwoAdicField.root g.D.Val.Field.GENERATOR g.met.D.Val.TwoAdicField.two_adic
            coset lawful c.requires.subgroup c.args.zeta point ∙ sym zero)) ∙ g.met.EF.Eq.laws.refl value),
      );
    }
