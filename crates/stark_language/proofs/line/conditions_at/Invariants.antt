use Rattle.std.proofs.Common.{◌≡◌, ◌-◌, map}
use Rattle.stark_language.specs.Expressions.{step_view}
use Rattle.stark_language.specs.Faults.{ahead, many}
use Rattle.stark_language.specs.Lines.{conditions_at, next_condition}
use Rattle.stark_language.specs.Tokens.{lexeme_view}
use Rattle.stark_language.proofs.line.conditions_at.Given as goal

abbrev pub invariant-loop-step : goal.invariant-loop-step
invariant-loop-step l = ahead (map step_view l.condition.items) (many next_condition (l.most - l._step) (map lexeme_view l.rest)) ≡ conditions_at (map lexeme_view l.fn.tokens)
