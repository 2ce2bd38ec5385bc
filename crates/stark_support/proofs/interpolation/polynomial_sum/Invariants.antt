use Rattle.std.proofs.Common.{◌≡◌, ◌++◌, drop}
use Rattle.stark_support.specs.Polynomial.{polynomial_sum}
use Rattle.stark_support.proofs.interpolation.polynomial_sum.Given as goal

abbrev pub invariant-loop-index : goal.invariant-loop-index
invariant-loop-index g l = l.sum.items ++ polynomial_sum g.F.Field.ring (drop l.index l.p) (drop l.index l.q) ≡ polynomial_sum g.F.Field.ring l.p l.q
