use Rattle.std.proofs.Common.{rules}
use Rattle.stark_clear.proofs.clear.pcs.ClearPcs.pass.Goals as goal

pub returns : goal.returns
returns c = search rules
