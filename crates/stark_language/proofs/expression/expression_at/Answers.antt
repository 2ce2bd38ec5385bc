use Rattle.std.proofs.Common.{map, reverse}
use Rattle.std.proofs.lemmas.Result.{err_from_is_err_and}
use Rattle.stark_language.specs.Tokens.{lexeme_view}
use Rattle.stark_language.specs.Expressions.{expression_at, read_from, step_view}
use Rattle.stark_language.proofs.Reading.{loop_ends, loop_fails, loop_goes, loop_stops}
use Rattle.stark_language.proofs.expression.expression_at.Goals as goal

pub loop-at-preserved : goal.loop-at-preserved
loop-at-preserved c =
    loop_goes lexeme_view c.args.tokens.now c.loop-at.at _ c.loop-at-test.true (expression_at (map lexeme_view c.args.tokens.now)) (map step_view c.loop-at.steps.items) c.loop-at.state (reverse c.loop-at.outer.items)
    (map step_view c.turn.new.steps.items) c.in-Some.next (reverse c.turn.new.outer.items) _ c.in-Some.is c.in_ok-next.ensures c.loop-at.invariant

pub returns-in_default : goal.returns-in_default
returns-in_default c =
    loop_stops lexeme_view c.args.tokens.now c.loop-at.at _ c.loop-at-test.true (expression_at (map lexeme_view c.args.tokens.now)) (map step_view c.loop-at.steps.items) c.loop-at.state (reverse c.loop-at.outer.items)
    (map step_view c.turn.new.steps.items) (reverse c.turn.new.outer.items) _ c.in_default.is c.in_ok-next.ensures c.loop-at.invariant

pub returns-in_err-next : goal.returns-in_err-next
returns-in_err-next c =
    let p = err_from_is_err_and c.from_residual.result c.from_residual.ensures.1 in
    rw (p.1, p.2) (loop_fails lexeme_view c.args.tokens.now c.loop-at.at _ c.loop-at-test.true (expression_at (map lexeme_view c.args.tokens.now)) (map step_view c.loop-at.steps.items) c.loop-at.state (reverse c.loop-at.outer.items)
    _ c.in_err-next.ensures c.loop-at.invariant)

pub returns : goal.returns
unfolding read_from
returns c =
    let end = loop_ends lexeme_view c.args.tokens.now c.loop-at.at (expression_at (map lexeme_view c.args.tokens.now)) (map step_view c.loop-at.steps.items) c.loop-at.state (reverse c.loop-at.outer.items) c.loop-at-test.false c.loop-at.invariant in
    rw (c.fault.ensures) end
