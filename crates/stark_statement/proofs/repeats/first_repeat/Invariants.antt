use Rattle.std.proofs.Common.{◌≡◌, [], length}
use Rattle.json.specs.Lex.{tokens}
use Rattle.stark_statement.proofs.RepeatSteps.{names_of_objects, scan}
use Rattle.stark_statement.proofs.repeats.first_repeat.Given as goal

abbrev pub invariant-tokens : goal.invariant-tokens
invariant-tokens l = scan [] (tokens l.text) ≡ scan (names_of_objects l.objects.items) l.reader

abbrev pub decreases-tokens : goal.decreases-tokens
decreases-tokens l = length l.reader
