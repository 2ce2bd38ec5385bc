use Rattle.std.proofs.Common.{rules}
use Rattle.stark_symbolic.proofs.expression.SymbolicExpression.is_refused.Goals as goal

pub returns : goal.returns
returns g c = search rules
