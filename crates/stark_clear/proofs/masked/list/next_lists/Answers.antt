use Rattle.std.proofs.Common.{◌∙◌, [], ◌∷◌, ap, map, length}
use Rattle.std.proofs.lemmas.List.{map-append}
use Rattle.stark_columns.specs.Columns.{column_list, columns_list}
use Rattle.stark_clear.proofs.MaskSteps.{next_place, one_more_list}
use Rattle.stark_clear.proofs.masked.list.next_lists.Goals as goal

pub loop-list-preserved : goal.loop-list-preserved
loop-list-preserved g c =
    let masks = c.args.masks.now in
    let first = c.args.place.now in
    let count = c.loop-list._list in (
      one_more_list g.F.Field.ring masks first c.loop-list.place count c.args.size (columns_list c.loop-list.lists) (columns_list c.push.new.self) c.in_ok-list.list.items
          c.in_ok-list.ensures.list c.loop-list.invariant.1
          (ap (map column_list) c.in_ok-push.ensures.items ∙ map-append column_list c.loop-list.lists.items (c.in_ok-list.list ∷ [])) c.loop-list.invariant.0,
      c.in_ok-list.ensures.place ∙ next_place (length masks) first c.loop-list.place count c.args.size c.loop-list.invariant.1,
    )
