use Rattle.std.proofs.Common.{◌≡◌, map}
use Rattle.stark_columns.specs.Columns.{columns_list}
use Rattle.stark_clear.specs.Masks.{balancing_masks}
use Rattle.stark_clear.proofs.masked.chunks.balancing_masks.Given as goal

abbrev pub invariant-loop-column : goal.invariant-loop-column
invariant-loop-column g l = columns_list l.masks ≡ balancing_masks g.F.Field.ring (map columns_list l.chosen) l.size l.column
