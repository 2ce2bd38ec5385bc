use Rattle.std.proofs.Math.Nat.{mod-add-mod}
use Rattle.stark_support.proofs.CellSteps.{reduced}
use Rattle.stark_support.proofs.matrix.row_within.Goals as goal

pub returns-clause-within : goal.returns-clause-within
returns-clause-within c = reduced c.args.r c.args.height c.requires

pub returns-clause-same : goal.returns-clause-same
returns-clause-same c i = mod-add-mod c.args.r c.args.height i
