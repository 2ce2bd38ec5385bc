use Rattle.std.proofs.Common.{rules}
use Rattle.stark_support.proofs.matrix.RowMajorMatrix.height.Goals as goal

pub returns-then-self-eq0 : goal.returns-then-self-eq0
returns-then-self-eq0 g c = search rules

pub returns-else-self-eq0 : goal.returns-else-self-eq0
returns-else-self-eq0 g c = search rules
