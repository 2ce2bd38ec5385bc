use Rattle.std.proofs.Common.{◌∙◌, ap, sym}
use Rattle.stark_support.specs.Embedding.{embedded_two_adic}
use Rattle.stark_folding.specs.FoldFacts.{two_nonzero}
use Rattle.stark_folding.proofs.fold.fold_pair_in.Goals as goal

pub inverse-requires : goal.inverse-requires
inverse-requires g c = λ e.
    let ring = g.EF.Field.ring in
    two_nonzero g.met.EF.Field.field_laws g.F.TwoAdicField.TWO_ADICITY (λ k. g.EF.ExtensionField.embed (g.F.TwoAdicField.root k)) (g.EF.ExtensionField.embed g.F.Field.GENERATOR)
    (embedded_two_adic g.met.EF.ExtensionField.embeds g.F.TwoAdicField.TWO_ADICITY g.F.TwoAdicField.root g.F.Field.GENERATOR g.met.F.TwoAdicField.two_adic)
    (ap (λ x. ring.add x ring.one) (sym (c.ONE.ensures ∙ g.met.EF.Field.one_is)) ∙ ap (ring.add c.ONE.result) (sym (c.ONE-2.ensures ∙ g.met.EF.Field.one_is)) ∙ sym (g.met.EF.Field.add_is _ _ _ c.add.ensures) ∙ e)
