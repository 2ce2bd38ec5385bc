use Rattle.std.proofs.Common.{rules}
use Rattle.stark_parts.proofs.symbolic.get_log_num_quotient_chunks.Goals as goal

pub returns : goal.returns
returns g c = search rules
