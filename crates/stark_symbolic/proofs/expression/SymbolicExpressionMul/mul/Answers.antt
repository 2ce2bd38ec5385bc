use Rattle.std.proofs.Common.{rules}
use Rattle.stark_symbolic.proofs.expression.SymbolicExpressionMul.mul.Goals as goal

pub returns : goal.returns
returns g c = search rules
