use Rattle.std.proofs.Common.{inr}
use Rattle.stark_service.specs.TraceChecks.{IsFirstBroken}
use Rattle.stark_service.proofs.TraceTasks.{violation_found}
use Rattle.stark_service.proofs.checking.check_trace.Goals as goal

pub returns-in-Ok-broken_row : goal.returns-in-Ok-broken_row
unfolding IsFirstBroken
returns-in-Ok-broken_row g c =
    inr (c.in-Err-Violation.violation, violation_found _ c.in-Err-Violation.field-0 c.in-Err-Violation.violation c.in-Err-Violation.field-0-is c.in-Err-Violation.ensures.broken, c.in-Ok-broken_row.ensures)
