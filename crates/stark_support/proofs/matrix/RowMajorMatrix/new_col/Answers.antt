use Rattle.std.proofs.Common.{rules}
use Rattle.stark_support.proofs.matrix.RowMajorMatrix.new_col.Goals as goal

pub returns : goal.returns
returns c = search rules
