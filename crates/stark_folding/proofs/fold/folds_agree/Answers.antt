use Rattle.stark_folding.specs.FoldFacts.{points_fold}
use Rattle.stark_folding.proofs.fold.folds_agree.Goals as goal

pub returns : goal.returns
returns g c = λ coset valid k size p i.
    points_fold g.met.F.Field.field_laws g.F.TwoAdicField.TWO_ADICITY g.F.TwoAdicField.root g.F.Field.GENERATOR g.met.F.TwoAdicField.two_adic coset valid k size c.args._beta p i
