use Rattle.std.proofs.Common.{◌≡◌, ◌∙◌, ap, sym}
use Rattle.stark_support.specs.Powers.{squarings}
use Rattle.stark_fri.proofs.ClaimSteps.{off_where_other, other_where_off, tested}
use Rattle.stark_fri.proofs.claims.point_is_off.Goals as goal

pub inverse-requires : goal.inverse-requires
inverse-requires g c = λ e. g.met.F.TwoAdicField.two_adic.generator_nonzero (sym c.GENERATOR.ensures ∙ e)

pub returns : goal.returns
returns g c =
    let ring = g.EF.Field.ring in
    let laws = g.met.EF.Field.field_laws.of_ring in
    let embed = g.EF.ExtensionField.embed in
    let inverse = g.F.Field.inverse_of in
    let shift = g.F.Field.GENERATOR in
    let eq = g.EF.PartialEq.eq in
    let reached = c.squared_times.result in
    let product : c.mul.result ≡ ring.mul c.args.point (embed (inverse shift))
    = g.met.EF.Field.mul_is _ _ _ c.mul.ensures ∙ ap (ring.mul c.args.point) (c.from_base.ensures ∙ ap embed (c.inverse.ensures ∙ ap inverse c.GENERATOR.ensures)) in
    let is : reached ≡ squarings ring (ring.mul c.args.point (embed (inverse shift))) c.args.bits = c.squared_times.ensures ∙ ap (λ x. squarings ring x c.args.bits) product in
    let one : c.ONE.result ≡ ring.one = c.ONE.ensures ∙ g.met.EF.Field.one_is in
    let differ = tested c.ne.result (eq reached c.ONE.result) reached c.ONE.result c.ne.ensures (g.met.EF.Field.eq_same _ _) (λ e. ap (eq reached) (sym e) ∙ g.met.EF.Eq.laws.refl reached) in (
      λ yes. off_where_other laws embed inverse c.args.bits shift c.args.point (λ at_one. differ.0 yes (is ∙ at_one ∙ sym one)),
      λ off. differ.1 (λ e. other_where_off laws embed inverse c.args.bits shift c.args.point off (sym is ∙ e ∙ one)),
    )
