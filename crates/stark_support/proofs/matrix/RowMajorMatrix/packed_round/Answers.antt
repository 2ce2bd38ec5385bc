use Rattle.std.proofs.Common.{◌∙◌, sym}
use Rattle.stark_support.proofs.matrix.RowMajorMatrix.packed_round.Goals as goal

pub returns : goal.returns
returns g c i below = let obtained = c.packed_from_fn.ensures i below in obtained.2 ∙ sym obtained.1
