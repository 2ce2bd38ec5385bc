use Rattle.stark_support.specs.CosetFacts.{points_differ}
use Rattle.stark_support.proofs.domain.points_differ.Goals as goal

pub returns : goal.returns
returns g c = λ i j less below.
    points_differ g.met.D.Val.Field.field_laws _ _ _ g.met.D.Val.TwoAdicField.two_adic _ (g.met.D.PolynomialSpace.lawful c.args._domain.now) i j less below
