use Rattle.std.proofs.Common.{◌≤◌, length, subst}
use Rattle.stark_lookup_rows.proofs.PlaceSteps.{times_placed}
use Rattle.stark_lookup_rows.proofs.places.push_interaction.Goals as goal

pub returns : goal.returns
returns c = times_placed _ _ _ _ c.loop-place.place-index _ (subst (λ xs. length xs ≤ c.loop-place.place-index) c.deref-place-items.ensures.value c.loop-place-test.false) c.loop-place.invariant c.in_ok-push-2.ensures.items
