use Rattle.std.proofs.Common.{rules}
use Rattle.stark_support.proofs.matrix.RowMajorMatrix.width.Goals as goal

pub returns : goal.returns
returns g c = search rules
