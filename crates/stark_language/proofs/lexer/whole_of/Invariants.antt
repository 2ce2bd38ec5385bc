use Rattle.std.proofs.Common.{◌≡◌, ◌<◌, ◌^◌, drop}
use Rattle.stark_language.specs.Tokens.{whole_after}
use Rattle.stark_language.proofs.lexer.whole_of.Given as goal

abbrev pub invariant-loop-digit : goal.invariant-loop-digit
invariant-loop-digit l = record { small : l.value < 2 ^ 64; whole : whole_after l.value (drop l.digit-index l.digits) ≡ whole_after 0 l.digits }
