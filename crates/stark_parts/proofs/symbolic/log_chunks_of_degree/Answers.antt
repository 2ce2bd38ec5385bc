use Rattle.std.proofs.Common.{rules}
use Rattle.stark_parts.proofs.symbolic.log_chunks_of_degree.Goals as goal

pub returns : goal.returns
returns c = search rules
