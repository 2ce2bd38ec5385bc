use Rattle.std.proofs.Common.{◌≡◌, ◌≤◌, ◌-◌, drop, length, map}
use Rattle.stark_language.specs.Faults.{with_front}
use Rattle.stark_language.specs.Tokens.{lexeme_view, lexemes_from}
use Rattle.stark_language.proofs.lexer.lexemes_of.Given as goal

abbrev pub invariant-loop-at : goal.invariant-loop-at
invariant-loop-at l = record {
  within : l.at ≤ length l.text;
  whole : with_front (map lexeme_view l.lexemes.items) (lexemes_from 0 l.at (drop l.at l.text)) ≡ lexemes_from 0 0 l.text;
}

abbrev pub decreases-loop-at : goal.decreases-loop-at
decreases-loop-at l = length l.text - l.at
