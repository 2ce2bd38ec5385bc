use Rattle.std.proofs.Common.{◌≡◌, ◌∙◌, ◌≤◌, Some, length, refl, rules, slice_get, subst, ap, Bool}
use Rattle.std.proofs.lemmas.Option.{slice_get-get_or, slice_get_read}
use Rattle.stark_lookup_extension.specs.WrittenGroups.{WritesLookup, WritesParts}
use Rattle.stark_lookup_extension.specs.Interactions.{tag_of}
use Rattle.stark_lookup_extension.proofs.GroupSteps.{groups_all, groups_none, groups_one}
use Rattle.stark_lookup_extension.proofs.groups.written_groups.Goals as goal

pub loop-lookup-init : goal.loop-lookup-init
loop-lookup-init g c = groups_none g.F.Field.ring c.args.given.now c.args.list.now _ _ (c.ZERO-number.ensures ∙ g.met.F.Field.zero_is) (search rules)

pub loop-lookup-preserved : goal.loop-lookup-preserved
loop-lookup-preserved g c =
    let x = c.lookup-item.result in
    let parts = c.in_ok-parts.parts in
    let groups = c.in_ok-groups.groups.items in
    let counted = g.met.F.Field.add_is _ _ _ c.add-number.ensures ∙ ap (g.F.Field.ring.add c.loop-lookup.number) (c.ONE.ensures ∙ g.met.F.Field.one_is) in
    groups_one g.F.Field.ring c.args.given.now c.args.list.now c.loop-lookup.list c.key_parts.new.list c.written_lookup.new.list c.loop-lookup.lookup-index x c.loop-lookup.number c.add-number.result parts c.loop-lookup.all.items groups _
    (subst (λ xs. slice_get xs c.loop-lookup.lookup-index ≡ Some x) c.deref-lookup-items.ensures.value (slice_get_read _ _ _ _ refl c.loop-lookup-test.true c.lookup-item.is)) counted c.in_ok-parts.ensures.width (search rules) c.loop-lookup.invariant
    (subst (λ b. WritesParts g.F.Field.ring (tag_of b c.loop-lookup.number) c.loop-lookup.list parts c.key_parts.new.list) c.is_numbered-numbered.ensures c.in_ok-parts.ensures.parts)
    (subst (λ gs. WritesLookup g.F.Field.ring c.key_parts.new.list parts gs groups c.written_lookup.new.list) c.deref.ensures.value c.in_ok-groups.ensures)

pub returns : goal.returns
returns g c = groups_all g.F.Field.ring c.args.given.now c.args.list.now c.loop-lookup.list c.loop-lookup.lookup-index c.loop-lookup.number c.loop-lookup.all.items
    (subst (λ xs. length xs ≤ c.loop-lookup.lookup-index) c.deref-lookup-items.ensures.value c.loop-lookup-test.false) c.loop-lookup.invariant
