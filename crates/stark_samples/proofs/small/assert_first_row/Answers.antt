use Rattle.std.proofs.Common.{rules}
use Rattle.stark_samples.proofs.small.assert_first_row.Goals as goal

pub returns : goal.returns
returns c = search rules
