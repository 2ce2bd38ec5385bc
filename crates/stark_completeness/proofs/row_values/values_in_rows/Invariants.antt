use Rattle.std.proofs.Common.{◌≡◌}
use Rattle.stark_support.specs.Powers.{power}
use Rattle.stark_completeness.specs.CheckedRows.{checked_air, checked_rows}
use Rattle.stark_completeness.specs.RowValues.{AreValuesBefore}
use Rattle.stark_completeness.proofs.row_values.values_in_rows.Given as goal

abbrev pub invariant-loop-row : goal.invariant-loop-row
invariant-loop-row g l =
    AreValuesBefore (checked_air g.F.Field.ring g.F.Field.inverse_of g.F.TwoAdicField.root (g.A.Air.constraints l.fn.air) l.fn.trace) (checked_rows l.fn.trace) l.row l.all.items
    × (l.point ≡ power g.F.Field.ring (g.F.TwoAdicField.root l.fn.trace.log_height) l.row)
