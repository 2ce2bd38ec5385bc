use Rattle.std.proofs.Common.{◌∙◌, ◌∷◌, ◌++◌, [], ap, arith, map, subst, sym, take}
use Rattle.std.proofs.lemmas.List.{map_more, take_all}
use Rattle.stark_lookup_check.specs.Balance.{entries_of, entry_of}
use Rattle.stark_lookup_check.specs.Totals.{AreTotalsOf}
use Rattle.stark_lookup_check.proofs.BalanceSteps.{totals_after, totals_of_none}
use Rattle.stark_lookup_check.proofs.balance.totals_of.Goals as goal

pub loop-entry-init : goal.loop-entry-init
loop-entry-init g c = totals_of_none g.F.Field.ring g.F.PrimeField64.number_of c.new-totals.result c.new-totals.ensures.empty

pub loop-entry-preserved : goal.loop-entry-preserved
loop-entry-preserved g c =
    let prime = g.F.PrimeField64 in
    let xs = c.args.entries.now in
    let item = c.entry-item.result in
    let before = entries_of (take c.loop-entry.entry-index xs) in
    let more = map_more entry_of xs c.loop-entry.entry-index item c.loop-entry-test.true ∙ ap (λ e. before ++ entry_of e ∷ []) (sym c.entry-item.is) in
    subst (λ es. AreTotalsOf g.F.Field.ring prime.number_of es c.add_at.new.totals) (sym more)
    (totals_after g.met.F.Field.field_laws.of_ring prime.number_of (λ x y e. sym (g.met.F.PrimeField64.same_number x) ∙ ap prime.of_number e ∙ g.met.F.PrimeField64.same_number y) before (entry_of item)
    c.loop-entry.totals c.add_at.new.totals c.in_ok-key.key.items (c.in_ok-key.ensures ∙ ap (map prime.number_of) c.deref.ensures.value) c.in_ok-add_at.ensures c.loop-entry.invariant)

pub returns : goal.returns
returns g c = subst (λ es. AreTotalsOf g.F.Field.ring g.F.PrimeField64.number_of (entries_of es) c.loop-entry.totals) (take_all c.loop-entry.entry-index c.args.entries.now (omega (arith, c.loop-entry-test.false))) c.loop-entry.invariant
