use Rattle.std.proofs.Common.{◌∙◌, ap, drop, refl}
use Rattle.std.proofs.lemmas.Option.{slice_get_read}
use Rattle.stark_lookup_rows.specs.Cut.{groups_size}
use Rattle.stark_lookup_rows.proofs.CutSteps.{by_form}
use Rattle.stark_lookup_rows.proofs.CuttingSteps.{all_cut, begun, one_more}
use Rattle.stark_lookup_rows.proofs.cut.push_lookups.Goals as goal

pub loop-lookup-init : goal.loop-lookup-init
loop-lookup-init g c = begun _ _ _ _ _ _ _ _ _ (c.ZERO-number.ensures ∙ g.met.F.Field.zero_is) refl c.requires

pub loop-lookup-preserved : goal.loop-lookup-preserved
loop-lookup-preserved g c =
    one_more _ _ _ _ _ _ _ _ _ _ _ _ _ _ _ (slice_get_read _ _ _ _ refl c.loop-lookup-test.true c.lookup-item.is) c.loop-lookup.invariant
    (g.met.F.Field.add_is _ _ _ c.add-number.ensures ∙ ap (g.F.Field.ring.add c.loop-lookup.number) (c.ONE.ensures ∙ g.met.F.Field.one_is))
    (by_form g.F.Field.ring _ _ _ _ _ _ _ _ _ c.in_ok-rest.ensures.groups c.in_ok-form.ensures.width c.in_ok-form.ensures.tag c.deref.ensures.value)
    (c.in_ok-rest.ensures.rest ∙ ap (λ gs. drop (groups_size gs) c.loop-lookup.rest.now) c.deref.ensures.value)

pub returns : goal.returns
returns g c = (all_cut _ _ _ _ _ _ _ _ _ _ _ c.loop-lookup-test.false c.loop-lookup.invariant).0
