use Rattle.std.proofs.Common.{◌≢◌, All, take}
use Rattle.stark_lookup_trace.proofs.helpers.first_zero.Given as goal

abbrev pub invariant-loop-place : goal.invariant-loop-place
invariant-loop-place g l = All (λ x. x ≢ g.K.Field.ring.zero) (take l.place l.values)
