use Rattle.std.proofs.Common.{refl}
use Rattle.std.proofs.lemmas.Option.{slice_get_read}
use Rattle.stark_lookup_rows.specs.Places.{interaction_places}
use Rattle.stark_lookup_rows.proofs.PlaceSteps.{all_placed, places_grow}
use Rattle.stark_lookup_rows.proofs.places.push_group.Goals as goal

pub loop-given-preserved : goal.loop-given-preserved
loop-given-preserved c = places_grow interaction_places c.args.all.now.items c.args.group.now c.loop-given.given-index _ _ _ (slice_get_read _ _ _ _ refl c.loop-given-test.true c.given-item.is) c.loop-given.invariant c.in_ok-push_interaction.ensures

pub returns : goal.returns
returns c = all_placed interaction_places c.args.all.now.items c.args.group.now c.loop-given.given-index _ c.loop-given-test.false c.loop-given.invariant
