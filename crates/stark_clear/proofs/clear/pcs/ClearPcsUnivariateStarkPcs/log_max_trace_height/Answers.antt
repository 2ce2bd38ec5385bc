use Rattle.std.proofs.Common.{rules}
use Rattle.stark_clear.proofs.clear.pcs.ClearPcsUnivariateStarkPcs.log_max_trace_height.Goals as goal

pub returns : goal.returns
returns g c = search rules
