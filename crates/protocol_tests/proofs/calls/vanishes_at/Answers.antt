use Rattle.std.proofs.Common.{◌≡◌, ◌∙◌, sym, ap}
use Rattle.protocol_tests.proofs.calls.vanishes_at.Goals as goal

pub returns : goal.returns
returns g c =
    let field = g.met.EF.Field in
    let obtained = c.vanishing_poly_at_point.ensures in
    let value = c.vanishing_poly_at_point.result in
    let zero : c.ZERO.result ≡ g.EF.Field.ring.zero = c.ZERO.ensures ∙ field.zero_is in (
      (λ stated. sym obtained ∙ field.eq_same _ _ (sym c.eq.ensures ∙ stated) ∙ zero),
      (λ e. c.eq.ensures ∙ ap (g.EF.PartialEq.eq value) (sym (obtained ∙ e ∙ sym zero)) ∙ g.met.EF.Eq.laws.refl value),
    )
