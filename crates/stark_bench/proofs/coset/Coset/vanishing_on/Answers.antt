use Rattle.std.proofs.Common.{◌≡◌, ◌≢◌, ◌∙◌, ◌-◌, ◌^◌, ◌<◌, All, ap, arith, length, map, refl, subst, sym}
use Rattle.std.proofs.lemmas.List.{length-take-le}
use Rattle.stark_support.specs.Coset.{TwoAdicCoset, coset_point, subgroup_vanishing}
use Rattle.stark_support.specs.CosetFacts.{root_has_order}
use Rattle.stark_support.specs.CosetValueFacts.{apart_outside}
use Rattle.stark_support.specs.LogarithmFacts.{two_power_at_most}
use Rattle.stark_bench.specs.PointLists.{AreRepeated}
use Rattle.stark_bench.proofs.PointLists.{all_are, first_vanishing, inverses_everywhere, some_inverses, vanishing_everywhere}
use Rattle.stark_bench.proofs.coset.Coset.vanishing_on.Goals as goal

pub slice_bounds-vanishing_values-end : goal.slice_bounds-vanishing_values-end
slice_bounds-vanishing_values-end g c =
    let bound = two_power_at_most (c.args.coset.now.log_size - c.args.self.now.log_size) c.args.coset.now.log_size (omega arith) in
    sym (length-take-le c.points_for_each-period.result c.args.points.now (omega (arith, bound, c.points_for_each-period.ensures, c.requires.points.number)))

pub batch_multiplicative_inverse-requires : goal.batch_multiplicative_inverse-requires
batch_multiplicative_inverse-requires g c =
    let laws = g.met.F.Field.field_laws in
    let ring = g.F.Field.ring in
    let root = g.F.TwoAdicField.root in
    let two_adic = g.met.F.TwoAdicField.two_adic in
    let self = c.args.self.now in
    let coset : TwoAdicCoset g.row.F.Denot = record { shift = c.args.coset.now.shift; log_size = c.args.coset.now.log_size } in
    let k = self.log_size in
    let order = (root_has_order laws _ root _ two_adic coset.log_size c.args.coset.now.within).reaches in
    let values = c.in_ok-values.values.items in
    let listed = first_vanishing laws.of_ring root coset order k c.args.points.now values c.points_for_each-period.result c.requires.points c.points_for_each-period.ensures c.in_ok-values.ensures in
    let outside = apart_outside laws _ root _ two_adic (record { shift = self.shift; log_size = k }) (record { shift_nonzero = self.shift_nonzero; within = self.within }) c.requires.subgroup coset c.requires.disjoint in
    subst (λ xs. All (λ d. d ≢ ring.zero) xs) (sym c.as_slice.ensures.value)
    (all_are ring root coset (2 ^ (coset.log_size - k)) (λ x. subgroup_vanishing ring (2 ^ k) x) (λ d. d ≢ ring.zero) values (λ i h. outside i (coset_point ring root coset i) refl) listed)

pub repeated-requires : goal.repeated-requires
repeated-requires g c =
    let laws = g.met.F.Field.field_laws in
    let root = g.F.TwoAdicField.root in
    let coset : TwoAdicCoset g.row.F.Denot = record { shift = c.args.coset.now.shift; log_size = c.args.coset.now.log_size } in
    let k = c.args.self.now.log_size in
    let inverse = g.F.Field.inverse_of in
    let order = (root_has_order laws _ root _ g.met.F.TwoAdicField.two_adic coset.log_size c.args.coset.now.within).reaches in
    let values = c.in_ok-values.values.items in
    let inverses = c.in_ok-inverses.inverses.items in
    let listed = first_vanishing laws.of_ring root coset order k c.args.points.now values c.points_for_each-period.result c.requires.points c.points_for_each-period.ensures c.in_ok-values.ensures in
    let inverted : inverses ≡ map inverse values = c.in_ok-inverses.ensures ∙ ap (map inverse) c.as_slice.ensures.value in
    subst (λ xs. 0 < length xs) (sym c.as_slice-2.ensures.value) (some_inverses laws.of_ring root coset order k c.args.points.now values c.requires.points listed inverse inverses inverted)

pub returns-clause-values : goal.returns-clause-values
returns-clause-values g c =
    let laws = g.met.F.Field.field_laws in
    let root = g.F.TwoAdicField.root in
    let coset : TwoAdicCoset g.row.F.Denot = record { shift = c.args.coset.now.shift; log_size = c.args.coset.now.log_size } in
    let k = c.args.self.now.log_size in
    let order = (root_has_order laws _ root _ g.met.F.TwoAdicField.two_adic coset.log_size c.args.coset.now.within).reaches in
    let points = c.args.points.now in
    let values = c.in_ok-values.values.items in
    let listed = first_vanishing laws.of_ring root coset order k points values c.points_for_each-period.result c.requires.points c.points_for_each-period.ensures c.in_ok-values.ensures in
    vanishing_everywhere laws.of_ring root coset order k points values c.requires.points listed

pub returns-clause-inverses : goal.returns-clause-inverses
returns-clause-inverses g c =
    let laws = g.met.F.Field.field_laws in
    let root = g.F.TwoAdicField.root in
    let coset : TwoAdicCoset g.row.F.Denot = record { shift = c.args.coset.now.shift; log_size = c.args.coset.now.log_size } in
    let k = c.args.self.now.log_size in
    let inverse = g.F.Field.inverse_of in
    let order = (root_has_order laws _ root _ g.met.F.TwoAdicField.two_adic coset.log_size c.args.coset.now.within).reaches in
    let points = c.args.points.now in
    let values = c.in_ok-values.values.items in
    let inverses = c.in_ok-inverses.inverses.items in
    let listed = first_vanishing laws.of_ring root coset order k points values c.points_for_each-period.result c.requires.points c.points_for_each-period.ensures c.in_ok-values.ensures in
    let inverted : inverses ≡ map inverse values = c.in_ok-inverses.ensures ∙ ap (map inverse) c.as_slice.ensures.value in
    let all = c.in_ok-inverses-2.inverses.items in
    inverses_everywhere laws.of_ring root coset order k points values c.requires.points listed inverse inverses inverted all (subst (λ xs. AreRepeated xs (length points) all) c.as_slice-2.ensures.value c.in_ok-inverses-2.ensures)
