use Rattle.std.proofs.Common.{◌∙◌, ap, sym}
use Rattle.stark_support.specs.Coset.{subgroup_vanishing}
use Rattle.stark_bench.proofs.coset.CosetPolynomialSpace.vanishing_poly_at_point.Goals as goal

pub inverse-requires : goal.inverse-requires
inverse-requires g c = λ e. c.args.self.now.shift_nonzero (g.met.EF.ExtensionField.embeds.injective _ _ (sym c.from_base.ensures ∙ e ∙ sym g.met.EF.ExtensionField.embeds.keeps.zero))

pub returns : goal.returns
returns g c =
    let ring = g.EF.Field.ring in
    c.subgroup_vanishing.ensures ∙
    ap (subgroup_vanishing ring _) (g.met.EF.Field.mul_is _ _ _ c.mul-ratio.ensures ∙ ap (ring.mul c.args.point) (c.inverse.ensures ∙ ap g.EF.Field.inverse_of c.from_base.ensures))
