use Rattle.std.proofs.Common.{◌≡◌}
use Rattle.stark_lookup_trace.specs.AuxiliaryColumns.{rows_with_sums, sum_before}
use Rattle.stark_lookup_trace.proofs.columns.with_sums.Given as goal

abbrev pub invariant-loop-row : goal.invariant-loop-row
invariant-loop-row g l =
    (l.values.items ≡ rows_with_sums g.K.Field.ring l.size l.helpers l.row) × (l.sum ≡ sum_before g.K.Field.ring l.size l.helpers l.row)
