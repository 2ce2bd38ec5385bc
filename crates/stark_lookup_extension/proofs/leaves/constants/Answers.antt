use Rattle.std.proofs.Common.{refl, rules}
use Rattle.std.proofs.lemmas.Option.{slice_get-get_or, slice_get_read}
use Rattle.stark_lookup_extension.specs.Written.{StandsAt}
use Rattle.stark_air.specs.Tree.{constant}
use Rattle.stark_lookup_extension.proofs.LeafSteps.{known_all, known_none, known_one}
use Rattle.stark_lookup_extension.proofs.Steps.{own_constant, place_kept}
use Rattle.stark_lookup_extension.proofs.leaves.constants.Goals as goal

pub loop-value-init : goal.loop-value-init
loop-value-init g c = known_none StandsAt constant c.args.list.now c.args.values.now _ (search rules)

pub loop-value-preserved : goal.loop-value-preserved
loop-value-preserved g c =
    let value = c.value-item.result in
    known_one StandsAt constant place_kept c.args.list.now c.loop-value.list c.constant.new.self c.args.values.now c.loop-value.value-index value c.in_ok-place.place c.loop-value.all.items _
    (slice_get_read _ _ _ _ refl c.loop-value-test.true c.value-item.is) c.in_ok-push.ensures.items c.loop-value.invariant
    (λ l ts h. own_constant l ts c.loop-value.list c.constant.new.self c.in_ok-place.place h value c.in_ok-place.ensures.constants c.constant.ensures.constraints c.in_ok-place.ensures.nodes c.in_ok-place.ensures.place)

pub returns : goal.returns
returns g c = known_all StandsAt constant c.args.list.now c.loop-value.list c.args.values.now c.loop-value.value-index c.loop-value.all.items c.loop-value-test.false c.loop-value.invariant
