use Rattle.std.proofs.Common.{◌≡◌, ◌≤◌, ◌++◌, drop, map}
use Rattle.stark_language.specs.Tokens.{end, ended, lexeme_view, token_view}
use Rattle.stark_language.proofs.lexer.ended.Given as goal

abbrev pub invariant-loop-place : goal.invariant-loop-place
invariant-loop-place l = record {
  shallow : l.depth ≤ l.place;
  whole : map lexeme_view l.kept.items ++ ended l.depth (token_view l.before) (map lexeme_view (drop l.place l.lexemes)) ≡ ended 0 end (map lexeme_view l.lexemes);
}
