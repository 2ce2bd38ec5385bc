use Rattle.std.proofs.Common.{rules}
use Rattle.stark_symbolic.proofs.expression.SymbolicExpressionNeg.neg.Goals as goal

pub returns : goal.returns
returns g c = search rules
