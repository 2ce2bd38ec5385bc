use Rattle.std.proofs.Common.{◌≡◌, drop}
use Rattle.json.specs.Lex.{between, lex}
use Rattle.stark_trace_json.proofs.scanner.skip_spaces.Given as goal

abbrev pub invariant-loop-at : goal.invariant-loop-at
invariant-loop-at l = lex between (drop l.at l.text) ≡ lex between l.text
