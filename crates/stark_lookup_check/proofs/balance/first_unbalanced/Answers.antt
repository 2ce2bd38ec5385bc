use Rattle.std.proofs.Common.{◌≡◌, ◌∙◌, ap, map, sym, true, false, List}
use Rattle.stark_logup.specs.Fractions.{Decides}
use Rattle.stark_lookup_check.specs.Balance.{entries_of, entry_of}
use Rattle.stark_lookup_check.proofs.BalanceSteps.{all_balanced, all_before, entry_there, zero_next}
use Rattle.stark_lookup_check.proofs.balance.first_unbalanced.Goals as goal

pub returns-then-not-is_zero-clause-unbalanced : goal.returns-then-not-is_zero-clause-unbalanced
returns-then-not-is_zero-clause-unbalanced g c =
    let item = c.index-entries-place.result in
    let sum = (λ (same : Decides (List _)). c.total_at.ensures ∙ c.in_ok-totals.ensures same c.in_ok-key.key item.tuple.items (c.in_ok-key.ensures ∙ ap (map g.F.PrimeField64.number_of) (c.deref.ensures.value ∙ ap (λ e. e.tuple.items) (sym c.index-entries-place.is)))) in
    record {
      entry = entry_of item;
      there = entry_there c.args.entries.now c.loop-place.place item c.loop-place-test.true c.index-entries-place.is;
      unbalanced = λ same none.
          let zero : c.is_zero.result ≡ true = c.is_zero.ensures ∙ ap (λ x. g.F.PartialEq.eq x g.F.Field.ring.zero) (sum same ∙ none) ∙ g.met.F.Eq.laws.refl g.F.Field.ring.zero in
          let clash : true ≡ false = sym zero ∙ c.if-not-is_zero.true in absurd (cc);
      first = c.loop-place.invariant;
    }

pub loop-place-preserved : goal.loop-place-preserved
loop-place-preserved g c =
    let item = c.index-entries-place.result in
    let sum = (λ (same : Decides (List _)). c.total_at.ensures ∙ c.in_ok-totals.ensures same c.in_ok-key.key item.tuple.items (c.in_ok-key.ensures ∙ ap (map g.F.PrimeField64.number_of) (c.deref.ensures.value ∙ ap (λ e. e.tuple.items) (sym c.index-entries-place.is)))) in
    zero_next g.F.Field.ring (entries_of c.args.entries.now) c.loop-place.place (entry_of item) (entry_there c.args.entries.now c.loop-place.place item c.loop-place-test.true c.index-entries-place.is)
    (λ same. sym (sum same) ∙ g.met.F.Field.eq_same c.total_at.result g.F.Field.ring.zero (sym c.is_zero.ensures ∙ c.if-not-is_zero.false)) c.loop-place.invariant

pub returns-clause-balanced : goal.returns-clause-balanced
returns-clause-balanced g c = λ ok same.
    all_balanced g.met.F.Field.field_laws.of_ring same (entries_of c.args.entries.now) (λ i e there. c.loop-place.invariant same i e (all_before c.args.entries.now i c.loop-place.place e c.loop-place-test.false there) there)
