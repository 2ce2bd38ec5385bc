use Rattle.std.proofs.Common.{refl, rules}
use Rattle.std.proofs.lemmas.Option.{slice_get-get_or, slice_get_read}
use Rattle.stark_lookup_extension.proofs.GroupSteps.{group_all, group_none, group_one}
use Rattle.stark_lookup_extension.proofs.groups.written_group.Goals as goal

pub loop-given-init : goal.loop-given-init
loop-given-init g c nodes = group_none g.F.Field.ring nodes c.args.list.now c.args.parts.now c.args.group.now _ (search rules)

pub loop-given-preserved : goal.loop-given-preserved
loop-given-preserved g c nodes =
    group_one g.F.Field.ring nodes c.args.list.now c.loop-given.list c.written_entry.new.list c.args.parts.now c.args.group.now c.loop-given.given-index c.given-item.result c.in_ok-entry.entry c.loop-given.all.items _
    (slice_get_read _ _ _ _ refl c.loop-given-test.true c.given-item.is) c.in_ok-push.ensures.items (c.loop-given.invariant nodes) c.in_ok-entry.ensures

pub returns : goal.returns
returns g c nodes = group_all g.F.Field.ring nodes c.args.list.now c.loop-given.list c.args.parts.now c.args.group.now c.loop-given.given-index c.loop-given.all.items c.loop-given-test.false (c.loop-given.invariant nodes)
