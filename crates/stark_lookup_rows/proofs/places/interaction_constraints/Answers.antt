use Rattle.std.proofs.Common.{◌∙◌, ◌++◌, [], ap, map, refl}
use Rattle.std.proofs.lemmas.Option.{slice_get_read}
use Rattle.stark_tree_air.specs.declared.node.TreeConstraint.TheVariants.{Base}
use Rattle.stark_lookup_rows.specs.Places.{groups_places}
use Rattle.stark_lookup_rows.proofs.PlaceSteps.{all_placed, places_grow}
use Rattle.stark_lookup_rows.proofs.places.interaction_constraints.Goals as goal

pub loop-lookup-preserved : goal.loop-lookup-preserved
loop-lookup-preserved c =
    places_grow (λ x. groups_places x.groups.items) [] c.args.lookups.now c.loop-lookup.lookup-index _ _ _ (slice_get_read _ _ _ _ refl c.loop-lookup-test.true c.lookup-item.is) c.loop-lookup.invariant (c.in_ok-push_groups.ensures ∙ ap (λ gs. c.loop-lookup.all.items ++ map Base (groups_places gs)) c.deref.ensures.value)

pub returns : goal.returns
returns c = all_placed (λ x. groups_places x.groups.items) [] c.args.lookups.now c.loop-lookup.lookup-index _ c.loop-lookup-test.false c.loop-lookup.invariant
