use Rattle.std.proofs.Common.{rules}
use Rattle.std.proofs.lemmas.Option.{slice_get-get_or, slice_get_read}
use Rattle.stark_lookup_air.specs.LookupConstraints.{light_trees}
use Rattle.stark_lookup_extension.specs.Written.{StandsAt}
use Rattle.stark_lookup_extension.proofs.Loops.{each_all, each_none, each_one}
use Rattle.stark_lookup_extension.proofs.Steps.{place_kept}
use Rattle.stark_lookup_extension.proofs.lists.opposites.Goals as goal

pub loop-x-init : goal.loop-x-init
loop-x-init g c same = each_none StandsAt StandsAt (light_trees same g.F.Field.ring).neg c.args.list.now c.args.xs.now _ (search rules)

pub loop-x-preserved : goal.loop-x-preserved
loop-x-preserved g c same =
    each_one StandsAt StandsAt (light_trees same g.F.Field.ring).neg place_kept place_kept c.args.list.now c.loop-x.list c.opposite.new.list c.args.xs.now c.loop-x.x-index _ c.in_ok-place.place c.loop-x.all.items _
    (slice_get-get_or c.args.xs.now c.loop-x.x-index 0 c.loop-x-test.true) c.in_ok-push.ensures.items (c.loop-x.invariant same) (c.in_ok-place.ensures same)

pub returns : goal.returns
returns g c same = each_all StandsAt StandsAt (light_trees same g.F.Field.ring).neg c.args.list.now c.loop-x.list c.args.xs.now c.loop-x.x-index c.loop-x.all.items c.loop-x-test.false (c.loop-x.invariant same)
