use Rattle.std.proofs.Common.{◌≡◌, map, take}
use Rattle.std.specs.Vec.{vec_items}
use Rattle.stark_completeness.specs.RowCheck.{entry_in_row}
use Rattle.stark_completeness.proofs.check.periodic_entries.Given as goal

abbrev pub invariant-loop-column : goal.invariant-loop-column
invariant-loop-column g l = l.entries.items ≡ map (λ column. entry_in_row g.F.Field.ring.zero l.row (vec_items column)) (take l.column-index l.columns)
