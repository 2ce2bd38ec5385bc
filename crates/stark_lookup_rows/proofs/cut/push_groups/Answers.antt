use Rattle.std.proofs.Common.{◌∙◌, ap, drop, refl}
use Rattle.std.proofs.lemmas.Option.{slice_get_read}
use Rattle.stark_lookup_rows.specs.Cut.{cut_group, entries_view, group_size}
use Rattle.stark_lookup_rows.proofs.CutSteps.{pushed}
use Rattle.stark_lookup_rows.proofs.CuttingSteps.{all_cut, begun, one_more}
use Rattle.stark_lookup_rows.proofs.cut.push_groups.Goals as goal

pub loop-group-init : goal.loop-group-init
loop-group-init g c = begun _ _ _ _ _ _ _ _ _ refl refl c.requires

pub loop-group-preserved : goal.loop-group-preserved
loop-group-preserved g c =
    one_more _ _ _ _ _ _ _ _ _ _ _ _ _ _ _ (slice_get_read _ _ _ _ refl c.loop-group-test.true c.group-item.is) c.loop-group.invariant refl (pushed entries_view _ _ _ _ c.in_ok-push.ensures.items
    (c.in_ok-entries.ensures.entries ∙ ap (λ es. cut_group g.F.Field.ring c.args.form.now.width c.args.form.now.tag.items es c.loop-group.rest.now) c.deref.ensures.value))
    (c.in_ok-entries.ensures.rest ∙ ap (λ es. drop (group_size es) c.loop-group.rest.now) c.deref.ensures.value)

pub returns-clause-groups : goal.returns-clause-groups
returns-clause-groups g c = (all_cut _ _ _ _ _ _ _ _ _ _ _ c.loop-group-test.false c.loop-group.invariant).0

pub returns-clause-rest : goal.returns-clause-rest
returns-clause-rest g c = (all_cut _ _ _ _ _ _ _ _ _ _ _ c.loop-group-test.false c.loop-group.invariant).1
