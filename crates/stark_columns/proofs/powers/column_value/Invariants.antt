use Rattle.std.proofs.Common.{◌≡◌, ◌≤◌, length, drop}
use Rattle.stark_support.specs.Polynomial.{value_over}
use Rattle.stark_columns.proofs.powers.column_value.Given as goal

abbrev pub invariant-loop-end : goal.invariant-loop-end
invariant-loop-end g l =
    (l.end ≤ length l.column) × (l.value ≡ value_over g.EF.Field.ring g.EF.ExtensionField.embed (drop l.end l.column) l.fn.point)

abbrev pub decreases-loop-end : goal.decreases-loop-end
decreases-loop-end g l = l.end
