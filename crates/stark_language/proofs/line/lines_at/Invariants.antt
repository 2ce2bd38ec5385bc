use Rattle.std.proofs.Common.{◌≡◌, ◌-◌, map}
use Rattle.stark_language.specs.Faults.{ahead, many}
use Rattle.stark_language.specs.Lines.{lines_at, next_line, line_view}
use Rattle.stark_language.specs.Tokens.{lexeme_view}
use Rattle.stark_language.proofs.line.lines_at.Given as goal

abbrev pub invariant-loop-step : goal.invariant-loop-step
invariant-loop-step l = ahead (map line_view l.lines.items) (many next_line (l.most - l._step) (map lexeme_view l.rest)) ≡ lines_at (map lexeme_view l.fn.tokens)
