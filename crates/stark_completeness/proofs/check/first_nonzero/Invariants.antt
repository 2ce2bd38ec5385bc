use Rattle.std.proofs.Common.{◌≡◌, take}
use Rattle.std.specs.List.{AllByRecursion}
use Rattle.stark_completeness.proofs.check.first_nonzero.Given as goal

abbrev pub invariant-loop-place : goal.invariant-loop-place
invariant-loop-place g l = AllByRecursion (λ c. c ≡ g.F.Field.ring.zero) (take l.place l.values)
