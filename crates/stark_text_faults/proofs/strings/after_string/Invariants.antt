use Rattle.std.proofs.Common.{◌≤◌, length}
use Rattle.stark_text_faults.proofs.strings.after_string.Given as goal

abbrev pub invariant-loop : goal.invariant-loop
invariant-loop l = length l.rest ≤ length l.text
