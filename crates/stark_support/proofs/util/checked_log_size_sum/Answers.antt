use Rattle.std.proofs.Common.{rules}
use Rattle.stark_support.proofs.util.checked_log_size_sum.Goals as goal

pub returns : goal.returns
returns c = search rules

pub returns-in_err-sum : goal.returns-in_err-sum
returns-in_err-sum c = search rules

pub returns-in_err-size : goal.returns-in_err-size
returns-in_err-size c = search rules
