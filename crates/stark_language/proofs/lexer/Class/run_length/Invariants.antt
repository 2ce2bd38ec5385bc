use Rattle.std.proofs.Common.{◌≡◌, ℕ, ◌<◌, true, get_or}
use Rattle.stark_language.specs.Tokens.{belongs}
use Rattle.stark_language.proofs.lexer.Class.run_length.Given as goal

abbrev pub invariant-loop-at : goal.invariant-loop-at
invariant-loop-at l = (k : ℕ) → k < l.at → belongs l.self (get_or l.text k 0) ≡ true
