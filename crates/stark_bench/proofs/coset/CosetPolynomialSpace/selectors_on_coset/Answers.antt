use Rattle.std.proofs.Common.{◌∙◌, ◌^◌, ap, subst, sym}
use Rattle.stark_support.specs.Coset.{TwoAdicCoset, IsTwoAdicCoset, AreValuesOn, subgroup_vanishing}
use Rattle.stark_support.specs.CosetValueFacts.{own_subgroup}
use Rattle.stark_bench.specs.PointLists.{RepeatOn}
use Rattle.stark_bench.proofs.SelectorLists.{first_rows_listed, inverses_listed, no_first, transitions_listed}
use Rattle.stark_bench.proofs.coset.CosetPolynomialSpace.selectors_on_coset.Goals as goal

pub inverse-requires : goal.inverse-requires
inverse-requires g c =
    let self : TwoAdicCoset g.row.F.Denot = record { shift = c.args.self.now.shift; log_size = c.args.self.now.log_size } in
    let valid : IsTwoAdicCoset g.F.Field.ring g.F.TwoAdicField.TWO_ADICITY self = record { shift_nonzero = c.args.self.now.shift_nonzero; within = c.args.self.now.within } in
    (own_subgroup g.met.F.Field.field_laws _ g.F.TwoAdicField.root _ g.met.F.TwoAdicField.two_adic self valid c.two_adic_generator-generator.result c.two_adic_generator-generator.ensures).generator_nonzero

pub quotients-requires-clause-nonzero : goal.quotients-requires-clause-nonzero
quotients-requires-clause-nonzero g c =
    let self : TwoAdicCoset g.row.F.Denot = record { shift = c.args.self.now.shift; log_size = c.args.self.now.log_size } in
    let valid : IsTwoAdicCoset g.F.Field.ring g.F.TwoAdicField.TWO_ADICITY self = record { shift_nonzero = c.args.self.now.shift_nonzero; within = c.args.self.now.within } in
    let coset : TwoAdicCoset g.row.F.Denot = record { shift = c.args.coset.now.shift; log_size = c.args.coset.now.log_size } in
    no_first g.met.F.Field.field_laws _ g.F.TwoAdicField.root _ g.met.F.TwoAdicField.two_adic self valid c.requires.subgroup coset c.requires.disjoint
    (2 ^ coset.log_size) c.in_ok-points.points.items c.in_ok-points.ensures c.ONE.result c.in_ok-to_first.to_first.items _ c.in_ok-to_first.ensures c.as_slice-2.ensures.value (c.ONE.ensures ∙ g.met.F.Field.one_is) _ c.as_slice-4.ensures.value

pub last_rows_on-requires-clause-vanishing : goal.last_rows_on-requires-clause-vanishing
last_rows_on-requires-clause-vanishing g c =
    let self : TwoAdicCoset g.row.F.Denot = record { shift = c.args.self.now.shift; log_size = c.args.self.now.log_size } in
    let valid : IsTwoAdicCoset g.F.Field.ring g.F.TwoAdicField.TWO_ADICITY self = record { shift_nonzero = c.args.self.now.shift_nonzero; within = c.args.self.now.within } in
    let coset : TwoAdicCoset g.row.F.Denot = record { shift = c.args.coset.now.shift; log_size = c.args.coset.now.log_size } in
    subst (RepeatOn g.F.Field.ring g.F.TwoAdicField.root coset (λ x. subgroup_vanishing g.F.Field.ring (2 ^ self.log_size) x)) (sym c.as_slice-values.ensures.value) c.in_ok-vanishing.ensures.values

pub last_rows_on-requires-clause-first_rows : goal.last_rows_on-requires-clause-first_rows
last_rows_on-requires-clause-first_rows g c =
    let self : TwoAdicCoset g.row.F.Denot = record { shift = c.args.self.now.shift; log_size = c.args.self.now.log_size } in
    let valid : IsTwoAdicCoset g.F.Field.ring g.F.TwoAdicField.TWO_ADICITY self = record { shift_nonzero = c.args.self.now.shift_nonzero; within = c.args.self.now.within } in
    let coset : TwoAdicCoset g.row.F.Denot = record { shift = c.args.coset.now.shift; log_size = c.args.coset.now.log_size } in
    subst (AreValuesOn g.F.Field.ring g.F.TwoAdicField.root coset (2 ^ coset.log_size) _) (sym c.as_slice-5.ensures.value)
    (first_rows_listed g.met.F.Field.field_laws _ g.F.TwoAdicField.root _ g.met.F.TwoAdicField.two_adic self valid c.requires.subgroup coset c.requires.disjoint
    (2 ^ coset.log_size) c.in_ok-points.points.items c.in_ok-points.ensures c.ONE.result c.in_ok-to_first.to_first.items _ c.in_ok-to_first.ensures c.as_slice-2.ensures.value
    c.in_ok-vanishing.vanishing.values.items c.in_ok-vanishing.ensures.values c.in_ok-is_first_row.is_first_row.items _ _ c.as_slice-values.ensures.value c.as_slice-4.ensures.value c.in_ok-is_first_row.ensures (c.ONE.ensures ∙ g.met.F.Field.one_is))

pub last_rows_on-requires-clause-transitions : goal.last_rows_on-requires-clause-transitions
last_rows_on-requires-clause-transitions g c =
    let self : TwoAdicCoset g.row.F.Denot = record { shift = c.args.self.now.shift; log_size = c.args.self.now.log_size } in
    let valid : IsTwoAdicCoset g.F.Field.ring g.F.TwoAdicField.TWO_ADICITY self = record { shift_nonzero = c.args.self.now.shift_nonzero; within = c.args.self.now.within } in
    let coset : TwoAdicCoset g.row.F.Denot = record { shift = c.args.coset.now.shift; log_size = c.args.coset.now.log_size } in
    subst (AreValuesOn g.F.Field.ring g.F.TwoAdicField.root coset (2 ^ coset.log_size) _) (sym c.as_slice-6.ensures.value)
    (transitions_listed g.met.F.Field.field_laws _ g.F.TwoAdicField.root _ g.met.F.TwoAdicField.two_adic self valid c.requires.subgroup coset c.requires.disjoint
    (2 ^ coset.log_size) c.in_ok-points.points.items c.in_ok-points.ensures c.inverse.result c.in_ok-is_transition.is_transition.items _ c.in_ok-is_transition.ensures c.as_slice-3.ensures.value (c.inverse.ensures ∙ ap g.F.Field.inverse_of c.two_adic_generator-generator.ensures))

pub returns-clause-first_row : goal.returns-clause-first_row
returns-clause-first_row g c =
    let self : TwoAdicCoset g.row.F.Denot = record { shift = c.args.self.now.shift; log_size = c.args.self.now.log_size } in
    let valid : IsTwoAdicCoset g.F.Field.ring g.F.TwoAdicField.TWO_ADICITY self = record { shift_nonzero = c.args.self.now.shift_nonzero; within = c.args.self.now.within } in
    let coset : TwoAdicCoset g.row.F.Denot = record { shift = c.args.coset.now.shift; log_size = c.args.coset.now.log_size } in
    first_rows_listed g.met.F.Field.field_laws _ g.F.TwoAdicField.root _ g.met.F.TwoAdicField.two_adic self valid c.requires.subgroup coset c.requires.disjoint
    (2 ^ coset.log_size) c.in_ok-points.points.items c.in_ok-points.ensures c.ONE.result c.in_ok-to_first.to_first.items _ c.in_ok-to_first.ensures c.as_slice-2.ensures.value
    c.in_ok-vanishing.vanishing.values.items c.in_ok-vanishing.ensures.values c.in_ok-is_first_row.is_first_row.items _ _ c.as_slice-values.ensures.value c.as_slice-4.ensures.value c.in_ok-is_first_row.ensures (c.ONE.ensures ∙ g.met.F.Field.one_is)

pub returns-clause-last_row : goal.returns-clause-last_row
returns-clause-last_row g c = c.in_ok-is_last_row.ensures

pub returns-clause-transition : goal.returns-clause-transition
returns-clause-transition g c =
    let self : TwoAdicCoset g.row.F.Denot = record { shift = c.args.self.now.shift; log_size = c.args.self.now.log_size } in
    let valid : IsTwoAdicCoset g.F.Field.ring g.F.TwoAdicField.TWO_ADICITY self = record { shift_nonzero = c.args.self.now.shift_nonzero; within = c.args.self.now.within } in
    let coset : TwoAdicCoset g.row.F.Denot = record { shift = c.args.coset.now.shift; log_size = c.args.coset.now.log_size } in
    transitions_listed g.met.F.Field.field_laws _ g.F.TwoAdicField.root _ g.met.F.TwoAdicField.two_adic self valid c.requires.subgroup coset c.requires.disjoint
    (2 ^ coset.log_size) c.in_ok-points.points.items c.in_ok-points.ensures c.inverse.result c.in_ok-is_transition.is_transition.items _ c.in_ok-is_transition.ensures c.as_slice-3.ensures.value (c.inverse.ensures ∙ ap g.F.Field.inverse_of c.two_adic_generator-generator.ensures)

pub returns-clause-inv_vanishing : goal.returns-clause-inv_vanishing
returns-clause-inv_vanishing g c =
    let self : TwoAdicCoset g.row.F.Denot = record { shift = c.args.self.now.shift; log_size = c.args.self.now.log_size } in
    let valid : IsTwoAdicCoset g.F.Field.ring g.F.TwoAdicField.TWO_ADICITY self = record { shift_nonzero = c.args.self.now.shift_nonzero; within = c.args.self.now.within } in
    let coset : TwoAdicCoset g.row.F.Denot = record { shift = c.args.coset.now.shift; log_size = c.args.coset.now.log_size } in
    inverses_listed g.met.F.Field.field_laws _ g.F.TwoAdicField.root _ g.met.F.TwoAdicField.two_adic self valid c.requires.subgroup coset c.requires.disjoint _ c.in_ok-vanishing.vanishing.inverses.items c.in_ok-vanishing.ensures.inverses
