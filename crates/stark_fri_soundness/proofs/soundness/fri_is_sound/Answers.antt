use Rattle.stark_support.specs.Embedding.{embedded_two_adic}
use Rattle.stark_fri_soundness.specs.Claims.{ColumnIndex}
use Rattle.stark_fri_soundness.specs.RunFacts.{fri_is_sound}
use Rattle.stark_fri_soundness.proofs.soundness.fri_is_sound.Goals as goal

pub returns : goal.returns
returns g c =
    fri_is_sound g.met.EF.Field.field_laws g.F.TwoAdicField.TWO_ADICITY (λ k. g.EF.ExtensionField.embed (g.F.TwoAdicField.root k)) (g.EF.ExtensionField.embed g.F.Field.GENERATOR)
    (embedded_two_adic g.met.EF.ExtensionField.embeds g.F.TwoAdicField.TWO_ADICITY g.F.TwoAdicField.root g.F.Field.GENERATOR g.met.F.TwoAdicField.two_adic) ColumnIndex
