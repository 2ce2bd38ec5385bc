use Rattle.std.proofs.Common.{rules}
use Rattle.stark_symbolic.proofs.degree.get_max_constraint_degree_extension.Goals as goal

pub returns : goal.returns
returns g c = search rules
