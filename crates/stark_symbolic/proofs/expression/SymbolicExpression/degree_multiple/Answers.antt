use Rattle.std.proofs.Common.{rules}
use Rattle.stark_symbolic.proofs.expression.SymbolicExpression.degree_multiple.Goals as goal

pub returns : goal.returns
returns g c = search rules
