use Rattle.std.proofs.Common.{◌∙◌, [], ◌∷◌, ap, map}
use Rattle.std.proofs.lemmas.List.{map-append}
use Rattle.stark_columns.specs.Columns.{column_list, columns_list}
use Rattle.stark_clear.specs.Masks.{balancing_mask}
use Rattle.stark_clear.proofs.Ranges.{from_zero, range_grown}
use Rattle.stark_clear.proofs.masked.chunks.balancing_masks.Goals as goal

pub loop-column-preserved : goal.loop-column-preserved
loop-column-preserved g c =
    let mask = balancing_mask g.F.Field.ring (map columns_list c.args.chosen.now) c.args.size in
    range_grown mask 0 c.loop-column.column (columns_list c.loop-column.masks) (columns_list c.push.new.self) c.in_ok-mask.mask.items (c.in_ok-mask.ensures ∙ ap mask (from_zero c.loop-column.column))
    (ap (map column_list) c.in_ok-push.ensures.items ∙ map-append column_list c.loop-column.masks.items (c.in_ok-mask.mask ∷ [])) c.loop-column.invariant
