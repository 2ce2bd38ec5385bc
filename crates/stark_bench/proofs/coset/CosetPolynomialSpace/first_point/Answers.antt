use Rattle.std.proofs.Common.{rules}
use Rattle.stark_bench.proofs.coset.CosetPolynomialSpace.first_point.Goals as goal

pub returns : goal.returns
returns g c = search rules
