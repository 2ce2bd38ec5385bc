use Rattle.std.proofs.Common.{rules}
use Rattle.stark_bench.proofs.coset.CosetPolynomialSpace.try_create_disjoint_domain.Goals as goal

pub returns : goal.returns
returns c = search rules
