use Rattle.std.proofs.Common.{rules}
use Rattle.stark_verifier.proofs.opened.check_expected.Goals as goal

pub returns : goal.returns
returns c = search rules

pub returns-in_err-check_dimensions : goal.returns-in_err-check_dimensions
returns-in_err-check_dimensions g c = search rules

pub returns-in_err-check_trace_next : goal.returns-in_err-check_trace_next
returns-in_err-check_trace_next g c = search rules
