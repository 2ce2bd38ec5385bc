use Rattle.stark_support.specs.DivisionFacts.{vanishing_quotient}
use Rattle.stark_support.proofs.polynomial.vanishing_divides.Goals as goal

pub returns : goal.returns
returns g c = λ p vanishes. vanishing_quotient g.met.F.Field.field_laws c.args._generator _ p c.requires.positive c.requires.order vanishes
