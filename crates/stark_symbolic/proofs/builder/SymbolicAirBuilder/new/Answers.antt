use Rattle.std.proofs.Common.{rules}
use Rattle.stark_symbolic.proofs.builder.SymbolicAirBuilder.new.Goals as goal

pub returns : goal.returns
returns c = search rules
