use Rattle.std.proofs.Common.{◌≡◌, ◌-◌, map}
use Rattle.stark_language.specs.Faults.{ahead, many}
use Rattle.stark_language.specs.Lists.{items_at, next_item}
use Rattle.stark_language.specs.Tokens.{lexeme_view}
use Rattle.stark_language.proofs.list.items_at.Given as goal

abbrev pub invariant-loop-step : goal.invariant-loop-step
invariant-loop-step l = ahead l.items.items (many next_item (l.most - l._step) (map lexeme_view l.rest)) ≡ items_at (map lexeme_view l.fn.tokens)
