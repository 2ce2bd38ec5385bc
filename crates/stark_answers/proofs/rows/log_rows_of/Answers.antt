use Rattle.std.proofs.Common.{arith}
use Rattle.stark_answers.proofs.Heights.{no_other_height, rows_have_height}
use Rattle.stark_answers.proofs.rows.log_rows_of.Goals as goal

pub returns-clause-height : goal.returns-clause-height
returns-clause-height g c =
    rows_have_height (g.A.BaseAir.preprocessed_trace c.args.air.now) c.in_ok-trace.field-0 c.in_ok-trace.ensures c.in-Some.trace c.in-Some.is c.height.result c.log_of_height.result
    c.height.ensures c.in-Some.trace.whole_rows c.log_of_height.ensures.some

pub returns-clause-none : goal.returns-clause-none
returns-clause-none g c =
    no_other_height (g.A.BaseAir.preprocessed_trace c.args.air.now) c.in_ok-trace.field-0 c.in_ok-trace.ensures c.in-Some.trace c.in-Some.is c.height.result c.args.greatest c.log_of_height.result
    c.height.ensures (omega (arith, c.if-width-eq0.false, c.width.ensures)) c.log_of_height.ensures.none
