use Rattle.std.proofs.Common.{◌∙◌, ap, sym}
use Rattle.stark_verifier.proofs.constraints.is_balanced.Goals as goal

pub returns : goal.returns
returns g c =
    let field = g.met.EF.Field in
    let product = field.mul_is _ _ _ c.mul.ensures in
    (λ stated. field.eq_same _ _ (sym c.eq.ensures ∙ stated) ∙ product, λ e. c.eq.ensures ∙ ap (g.EF.PartialEq.eq c.args.folded) (product ∙ sym e) ∙ g.met.EF.Eq.laws.refl c.args.folded)
