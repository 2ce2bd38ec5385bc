use Rattle.std.proofs.Common.{◌≡◌, ◌++◌, drop}
use Rattle.stark_support.specs.Polynomial.{scaled}
use Rattle.stark_support.proofs.interpolation.polynomial_scaled.Given as goal

abbrev pub invariant-loop-coefficient : goal.invariant-loop-coefficient
invariant-loop-coefficient g l = l.multiple.items ++ scaled g.F.Field.ring l.factor (drop l.coefficient-index l.p) ≡ scaled g.F.Field.ring l.factor l.p
