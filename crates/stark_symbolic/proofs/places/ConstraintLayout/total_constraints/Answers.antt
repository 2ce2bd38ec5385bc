use Rattle.std.proofs.Common.{rules}
use Rattle.stark_symbolic.proofs.places.ConstraintLayout.total_constraints.Goals as goal

pub returns : goal.returns
returns c = search rules
