use Rattle.std.proofs.Common.{map, arith}
use Rattle.stark_language.specs.Expressions.{step_view}
use Rattle.stark_language.proofs.Reading.{closed_open, closed_whole}
use Rattle.stark_language.proofs.expression.close.Goals as goal

pub returns-in-Some : goal.returns-in-Some
returns-in-Some c =
    closed_open (map step_view c.args.steps.now.items) (map step_view c.push_sum.new.steps.items) c.args.pending c.in-Some.pending c.args.outer.now.items c.pop.new.self.items c.in-Some.ensures.items c.in_ok-push_sum.ensures

pub returns-in-None : goal.returns-in-None
returns-in-None c =
    let cases = c.in-None.ensures.cases in
    closed_whole (map step_view c.args.steps.now.items) (map step_view c.push_sum.new.steps.items) c.args.pending c.args.outer.now.items (omega (arith, cases.0, c.args.outer.now.ok.0)) c.in_ok-push_sum.ensures
