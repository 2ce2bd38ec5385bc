use Rattle.std.proofs.Common.{◌≢◌, ◌∙◌, ◌%◌, All, IfSome, ap, length, refl, slice_index, subst, sym}
use Rattle.std.proofs.lemmas.List.{length-map}
use Rattle.std.proofs.lemmas.Nat.{mod_below}
use Rattle.std.proofs.lemmas.Option.{slice_get-get_or}
use Rattle.stark_logup.specs.Fractions.{denominator, numerator}
use Rattle.stark_lookup_trace.specs.AuxiliaryColumns.{IsFirstZero, NamesKey, entries_of}
use Rattle.stark_lookup_trace.proofs.KeySteps.{are_columns, as_many_helpers, as_many_parts, first_key, length_entries, no_key_at_all, some_group}
use Rattle.stark_lookup_trace.proofs.PassingSteps.{columns_pass}
use Rattle.stark_lookup_trace.proofs.columns.auxiliary_columns.Goals as goal

pub returns-in-Some-clause-key : goal.returns-in-Some-clause-key
returns-in-Some-clause-key g c =
    let ring = g.K.Field.ring in
    let gamma = c.args.gamma in
    let lookups = c.args.lookups.now in
    let gs = entries_of c.args.groups.now in
    let place = c.in-Some.place in
    let first = subst (λ r. IfSome r (IsFirstZero ring.zero c.deref.result.now)) c.in-Some.is c.first_zero.ensures.first in
    let are = c.deref.ensures.value ∙ c.in_ok-fractions.ensures.denominators in
    let whole = ap length are ∙ length-map gs (denominator ring gamma) ∙ length_entries c.args.groups.now ∙ c.requires in
    let some = some_group ring.zero c.deref.result.now place c.args.rows (length lookups) first whole in
    subst (NamesKey gamma lookups gs) (sym c.key_at.ensures)
    (first_key g.met.K.Field.field_laws gamma lookups c.deref.result.now gs place (length lookups) (slice_index lookups (place % length lookups)) refl are first
    (slice_get-get_or lookups (place % length lookups) 0 (mod_below place (length lookups) some)))

pub with_sums-requires-clause-whole : goal.with_sums-requires-clause-whole
with_sums-requires-clause-whole g c =
    let fractions = c.in_ok-fractions.fractions in
    ap length c.deref-4.ensures.value
    ∙ as_many_helpers g.K.Field.ring g.K.Field.inverse_of (numerator g.K.Field.ring c.args.gamma) c.deref-2.result.now c.deref-3.result.now c.in_ok-helpers.helpers.items c.args.groups.now
    (as_many_parts (numerator g.K.Field.ring c.args.gamma) (denominator g.K.Field.ring c.args.gamma) c.deref-2.result.now c.deref-3.result.now (entries_of c.args.groups.now)
    (c.deref-2.ensures.value ∙ c.in_ok-fractions.ensures.numerators) (c.deref-3.ensures.value ∙ c.in_ok-fractions.ensures.denominators))
    (c.deref-2.ensures.value ∙ c.in_ok-fractions.ensures.numerators) c.in_ok-helpers.ensures ∙ c.requires

pub returns-clause-columns : goal.returns-clause-columns
returns-clause-columns g c =
    are_columns g.met.K.Field.field_laws c.args.gamma c.args.rows (length c.args.lookups.now) (entries_of c.args.groups.now) c.deref-2.result.now c.deref-3.result.now c.deref-4.result.now
    c.in_ok-columns.columns.values.items (c.deref-2.ensures.value ∙ c.in_ok-fractions.ensures.numerators) (c.deref-3.ensures.value ∙ c.in_ok-fractions.ensures.denominators)
    (subst (All (λ x. x ≢ g.K.Field.ring.zero)) (c.deref.ensures.value ∙ sym c.deref-3.ensures.value) c.in_default.ensures.none) (c.deref-4.ensures.value ∙ c.in_ok-helpers.ensures) c.in_ok-columns.ensures.values

pub returns-clause-apart : goal.returns-clause-apart
returns-clause-apart g c =
    no_key_at_all g.met.K.Field.field_laws c.args.gamma c.deref.result.now (entries_of c.args.groups.now) (c.deref.ensures.value ∙ c.in_ok-fractions.ensures.denominators) c.in_default.ensures.none

pub returns-clause-pass : goal.returns-clause-pass
returns-clause-pass g c =
    columns_pass g.met.K.Field.field_laws c.args.gamma c.args.rows (length c.args.lookups.now) (entries_of c.args.groups.now) c.in_ok-columns.columns.values.items
    (length_entries c.args.groups.now ∙ c.requires) (returns-clause-apart g c) (returns-clause-columns g c)
