use Rattle.std.proofs.Common.{rules}
use Rattle.stark_parts.proofs.symbolic.get_log_quotient_degree_extension.Goals as goal

pub returns : goal.returns
returns g c = search rules

pub returns-in_err-degree : goal.returns-in_err-degree
returns-in_err-degree g c = search rules
