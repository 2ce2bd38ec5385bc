use Rattle.std.proofs.Common.{◌≡◌, ◌++◌, take}
use Rattle.stark_quotient.proofs.packed_rows.push_lanes.Given as goal

abbrev pub invariant-loop-lane : goal.invariant-loop-lane
invariant-loop-lane g l = l.values.items ≡ l.initial.values.items ++ take l.lane (g.P.PackedValue.lanes l.packed)
