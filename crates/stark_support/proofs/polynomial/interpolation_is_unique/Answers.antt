use Rattle.stark_support.specs.PolynomialFacts.{interpolation_unique}
use Rattle.stark_support.proofs.polynomial.interpolation_is_unique.Goals as goal

pub returns : goal.returns
returns g c = λ p q points below_p below_q many distinct agree x. interpolation_unique g.met.F.Field.field_laws _ p q points below_p below_q many distinct agree x
