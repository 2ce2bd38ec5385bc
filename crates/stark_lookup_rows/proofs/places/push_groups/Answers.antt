use Rattle.std.proofs.Common.{◌∙◌, ◌++◌, ap, map, refl}
use Rattle.std.proofs.lemmas.Option.{slice_get_read}
use Rattle.stark_tree_air.specs.declared.node.TreeConstraint.TheVariants.{Base}
use Rattle.stark_lookup_rows.specs.Places.{group_places}
use Rattle.stark_lookup_rows.proofs.PlaceSteps.{all_placed, places_grow}
use Rattle.stark_lookup_rows.proofs.places.push_groups.Goals as goal

pub loop-group-preserved : goal.loop-group-preserved
loop-group-preserved c =
    places_grow (λ es. group_places es.items) c.args.all.now.items c.args.groups.now c.loop-group.group-index _ _ _ (slice_get_read _ _ _ _ refl c.loop-group-test.true c.group-item.is) c.loop-group.invariant (c.in_ok-push_group.ensures ∙ ap (λ es. c.loop-group.all.items ++ map Base (group_places es)) c.deref.ensures.value)

pub returns : goal.returns
returns c = all_placed (λ es. group_places es.items) c.args.all.now.items c.args.groups.now c.loop-group.group-index _ c.loop-group-test.false c.loop-group.invariant
