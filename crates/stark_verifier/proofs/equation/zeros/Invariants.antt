use Rattle.std.proofs.Common.{◌≡◌, replicate}
use Rattle.stark_verifier.proofs.equation.zeros.Given as goal

abbrev pub invariant-loop-column : goal.invariant-loop-column
invariant-loop-column g l = l.row.items ≡ replicate l._column l.zero
