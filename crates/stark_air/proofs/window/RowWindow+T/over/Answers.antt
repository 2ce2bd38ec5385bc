use Rattle.std.proofs.Common.{rules}
use Rattle.stark_air.proofs.window.RowWindow+T.over.Goals as goal

pub returns : goal.returns
returns c = search rules
