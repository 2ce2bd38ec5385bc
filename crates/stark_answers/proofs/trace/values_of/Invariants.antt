use Rattle.std.proofs.Common.{◌≡◌, map, take}
use Rattle.std.specs.List.{flat_map}
use Rattle.stark_answers.proofs.trace.values_of.Given as goal

abbrev pub invariant-loop-row : goal.invariant-loop-row
invariant-loop-row g l = l.values.items ≡ flat_map (λ row. row) (map (λ row. row.items) (take l.row-index l.rows))
