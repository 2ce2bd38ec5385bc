use Rattle.std.proofs.Common.{◌≡◌, ◌≤◌, ◌∙◌, ◌+◌, ◌++◌, Some, ap, length, refl, replicate, rules, slice_get, subst}
use Rattle.std.proofs.lemmas.Option.{slice_get_read}
use Rattle.stark_lookup_rows.proofs.NumberSteps.{all_numbered, numbers_grow}
use Rattle.stark_lookup_rows.proofs.rows.group_lookups.Goals as goal

pub loop-lookup-preserved : goal.loop-lookup-preserved
loop-lookup-preserved c =
    let at = c.loop-lookup.invariant.0 in (
      ap (λ n. n + 1) at,
      numbers_grow c.args.given.now.lookups.items _ c.loop-lookup.lookup-index c.lookup-item.result c.loop-lookup.all.items c.push_number.new.all.items c.len.result
          (subst (λ xs. slice_get xs c.loop-lookup.lookup-index ≡ Some c.lookup-item.result) c.deref-lookup-items.ensures.value (slice_get_read _ _ _ _ refl c.loop-lookup-test.true c.lookup-item.is)) c.loop-lookup.invariant.1
          (c.in_ok-push_number.ensures ∙ ap (λ n. c.loop-lookup.all.items ++ replicate c.len.result n) at) (search rules),
    )

pub returns : goal.returns
returns c = all_numbered c.args.given.now.lookups.items _ c.loop-lookup.lookup-index _ (subst (λ xs. length xs ≤ c.loop-lookup.lookup-index) c.deref-lookup-items.ensures.value c.loop-lookup-test.false) c.loop-lookup.invariant.1
