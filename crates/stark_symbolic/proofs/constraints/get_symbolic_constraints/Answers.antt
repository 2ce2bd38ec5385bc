use Rattle.std.proofs.Common.{rules}
use Rattle.stark_symbolic.proofs.constraints.get_symbolic_constraints.Goals as goal

pub returns : goal.returns
returns g c = search rules

pub returns-in_err-base : goal.returns-in_err-base
returns-in_err-base g c = search rules
