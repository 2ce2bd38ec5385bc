use Rattle.std.proofs.Common.{refl, rules, subst}
use Rattle.std.proofs.lemmas.Option.{slice_get-get_or, slice_get_read}
use Rattle.stark_lookup_extension.specs.WrittenGroups.{WritesGroup}
use Rattle.stark_lookup_extension.proofs.GroupSteps.{lookup_all, lookup_none, lookup_one}
use Rattle.stark_lookup_extension.proofs.groups.written_lookup.Goals as goal

pub loop-group-init : goal.loop-group-init
loop-group-init g c nodes = lookup_none g.F.Field.ring nodes c.args.list.now c.args.parts.now c.args.groups.now _ (search rules)

pub loop-group-preserved : goal.loop-group-preserved
loop-group-preserved g c nodes =
    let entries = c.in_ok-entries.entries in
    lookup_one g.F.Field.ring nodes c.args.list.now c.loop-group.list c.written_group.new.list c.args.parts.now c.args.groups.now c.loop-group.group-index c.group-item.result entries c.loop-group.all.items _
    (slice_get_read _ _ _ _ refl c.loop-group-test.true c.group-item.is) c.in_ok-push.ensures.items (c.loop-group.invariant nodes)
    (subst (λ es. WritesGroup g.F.Field.ring c.loop-group.list c.args.parts.now es entries.items c.written_group.new.list) c.deref.ensures.value c.in_ok-entries.ensures)

pub returns : goal.returns
returns g c nodes = lookup_all g.F.Field.ring nodes c.args.list.now c.loop-group.list c.args.parts.now c.args.groups.now c.loop-group.group-index c.loop-group.all.items c.loop-group-test.false (c.loop-group.invariant nodes)
