use Rattle.stark_folding.specs.OneBeta.{two_betas}
use Rattle.stark_folding.proofs.fold.betas_are_few.Goals as goal

pub returns : goal.returns
returns g c = two_betas g.met.F.Field.field_laws g.F.TwoAdicField.TWO_ADICITY g.F.TwoAdicField.root g.F.Field.GENERATOR g.met.F.TwoAdicField.two_adic
