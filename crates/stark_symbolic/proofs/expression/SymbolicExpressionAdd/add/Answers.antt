use Rattle.std.proofs.Common.{rules}
use Rattle.stark_symbolic.proofs.expression.SymbolicExpressionAdd.add.Goals as goal

pub returns : goal.returns
returns g c = search rules
