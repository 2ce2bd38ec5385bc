use Rattle.std.proofs.Common.{◌≡◌, [], drop, get_or, length, map}
use Rattle.stark_columns.specs.Columns.{columns_list}
use Rattle.stark_clear.specs.Masks.{balancing_mask, less_all}
use Rattle.stark_clear.proofs.masked.chunks.balancing_mask.Given as goal

abbrev pub invariant-loop-masks : goal.invariant-loop-masks
invariant-loop-masks g l =
    (length l.mask.items ≡ l.size)
    × (less_all g.F.Field.ring l.mask.items (map (λ masks. get_or masks l.column []) (map columns_list (drop l.masks-index l.chosen))) ≡ balancing_mask g.F.Field.ring (map columns_list l.chosen) l.size l.column)
