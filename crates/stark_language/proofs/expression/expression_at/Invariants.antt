use Rattle.std.proofs.Common.{◌≡◌, drop, map, reverse}
use Rattle.stark_language.specs.Faults.{ahead}
use Rattle.stark_language.specs.Tokens.{lexeme_view}
use Rattle.stark_language.specs.Expressions.{expression_at, read_from, step_view}
use Rattle.stark_language.proofs.expression.expression_at.Given as goal

abbrev pub invariant-loop-at : goal.invariant-loop-at
invariant-loop-at l =
    ahead (map step_view l.steps.items) (read_from l.state (reverse l.outer.items) (map lexeme_view (drop l.at l.tokens))) ≡ expression_at (map lexeme_view l.tokens)
