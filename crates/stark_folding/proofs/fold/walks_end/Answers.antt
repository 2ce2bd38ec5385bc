use Rattle.stark_folding.specs.WalkFacts.{walk_of_layers}
use Rattle.stark_folding.proofs.fold.walks_end.Goals as goal

pub returns : goal.returns
returns g c = walk_of_layers g.met.F.Field.field_laws g.F.TwoAdicField.TWO_ADICITY g.F.TwoAdicField.root g.F.Field.GENERATOR g.met.F.TwoAdicField.two_adic
