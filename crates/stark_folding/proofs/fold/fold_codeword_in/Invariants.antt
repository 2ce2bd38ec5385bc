use Rattle.stark_support.specs.Embedding.{embedded_two_adic}
use Rattle.stark_support.specs.Coset.{coset_point}
use Rattle.stark_folding.proofs.Steps.{AreFoldedSoFar, IsWeight}
use Rattle.stark_folding.proofs.fold.fold_codeword_in.Given as goal

abbrev pub invariant-loop-i : goal.invariant-loop-i
invariant-loop-i g l =
    IsWeight g.met.EF.Field.field_laws l.fn.beta (coset_point g.EF.Field.ring (λ k. g.EF.ExtensionField.embed (g.F.TwoAdicField.root k)) (record { shift = g.EF.ExtensionField.embed l.fn.shift; log_size = l.log_size }) l.i) l.weight
    × AreFoldedSoFar g.met.EF.Field.field_laws g.F.TwoAdicField.TWO_ADICITY (λ k. g.EF.ExtensionField.embed (g.F.TwoAdicField.root k)) (g.EF.ExtensionField.embed g.F.Field.GENERATOR) (embedded_two_adic g.met.EF.ExtensionField.embeds g.F.TwoAdicField.TWO_ADICITY g.F.TwoAdicField.root g.F.Field.GENERATOR g.met.F.TwoAdicField.two_adic) (record { shift = g.EF.ExtensionField.embed l.fn.shift; log_size = l.log_size }) l.fn.beta l.codeword l.i l.half.items
