use Rattle.std.proofs.Common.{rules}
use Rattle.stark_support.proofs.polynomial.polynomial_value.Goals as goal

pub returns : goal.returns
returns g c = search rules
