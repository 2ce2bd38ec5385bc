use Rattle.std.proofs.Common.{◌≡◌, replicate}
use Rattle.stark_clear.proofs.masked.chunks.zeros.Given as goal

abbrev pub invariant-loop-place : goal.invariant-loop-place
invariant-loop-place g l = l.list.items ≡ replicate l._place g.F.Field.ring.zero
