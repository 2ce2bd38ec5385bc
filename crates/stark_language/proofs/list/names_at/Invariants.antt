use Rattle.std.proofs.Common.{◌≡◌, ◌-◌, map}
use Rattle.stark_language.specs.Expressions.{name_view}
use Rattle.stark_language.specs.Faults.{ahead, many}
use Rattle.stark_language.specs.Lists.{names_at, next_name}
use Rattle.stark_language.specs.Tokens.{lexeme_view}
use Rattle.stark_language.proofs.list.names_at.Given as goal

abbrev pub invariant-loop-step : goal.invariant-loop-step
invariant-loop-step l = ahead (map name_view l.names.items) (many next_name (l.most - l._step) (map lexeme_view l.rest)) ≡ names_at (map lexeme_view l.fn.tokens)
