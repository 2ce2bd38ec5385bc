use Rattle.std.proofs.Common.{rules}
use Rattle.stark_lookup_air.specs.LookupConstraints.{light_trees}
use Rattle.std.proofs.lemmas.Option.{slice_get-get_or}
use Rattle.stark_lookup_extension.specs.Written.{StandsAt}
use Rattle.stark_lookup_extension.proofs.Loops.{begun_all, begun_none, begun_one}
use Rattle.stark_lookup_extension.proofs.Steps.{place_kept}
use Rattle.stark_lookup_extension.proofs.lists.scaled.Goals as goal

pub loop-y-init : goal.loop-y-init
loop-y-init g c same = begun_none StandsAt StandsAt StandsAt (light_trees same g.F.Field.ring).mul c.args.list.now c.args.x c.args.ys.now _ (search rules)

pub loop-y-preserved : goal.loop-y-preserved
loop-y-preserved g c same =
    begun_one StandsAt StandsAt StandsAt (light_trees same g.F.Field.ring).mul place_kept place_kept place_kept c.args.list.now c.loop-y.list c.product.new.list c.args.x c.args.ys.now c.loop-y.y-index _ c.in_ok-place.place c.loop-y.all.items _
    (slice_get-get_or c.args.ys.now c.loop-y.y-index 0 c.loop-y-test.true) c.in_ok-push.ensures.items (c.loop-y.invariant same) (c.in_ok-place.ensures same)

pub returns : goal.returns
returns g c same = begun_all StandsAt StandsAt StandsAt (light_trees same g.F.Field.ring).mul c.args.list.now c.loop-y.list c.args.x c.args.ys.now c.loop-y.y-index c.loop-y.all.items c.loop-y-test.false (c.loop-y.invariant same)
