use Rattle.std.proofs.Common.{◌≡◌, ◌≤◌, length, drop}
use Rattle.stark_support.specs.Polynomial.{value_over}
use Rattle.stark_support.proofs.polynomial.polynomial_value_in.Given as goal

abbrev pub invariant-loop-index : goal.invariant-loop-index
invariant-loop-index g l =
    (l.index ≤ length l.coefficients) × (l.result ≡ value_over g.EF.Field.ring g.EF.ExtensionField.embed (drop l.index l.coefficients) l.point)

abbrev pub decreases-loop-index : goal.decreases-loop-index
decreases-loop-index g l = l.index
