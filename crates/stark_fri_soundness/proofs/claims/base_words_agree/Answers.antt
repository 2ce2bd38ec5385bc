use Rattle.stark_fri_soundness.specs.BaseWordFacts.{base_words_agree}
use Rattle.stark_fri_soundness.proofs.claims.base_words_agree.Goals as goal

pub returns : goal.returns
returns g c = base_words_agree g.met.F.Field.field_laws g.met.EF.Field.field_laws g.met.EF.ExtensionField.embeds
