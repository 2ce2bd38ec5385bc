use Rattle.std.proofs.Common.{◌≡◌, ◌∙◌, ◌<◌, ◌%◌, ◌+◌, ◌*◌, ◌/◌, ◌^◌, ap, arith, length, refl, slice_index_or, subst, sym, option_map, Some}
use Rattle.std.proofs.lemmas.List.{length-map}
use Rattle.std.proofs.Math.Nat.{div-le_self, mod-eq_of_lt}
use Rattle.stark_support.specs.Coset.{coset_size}
use Rattle.stark_support.specs.PeriodicTable.{table_at}
use Rattle.stark_support.specs.Scheme.{matrix_row}
use Rattle.stark_air.specs.Declaration.{Trace}
use Rattle.stark_prover_folder.specs.Finalized.{lane_values}
use Rattle.stark_quotient.specs.PointRows.{IsLaneRow, PointRow}
use Rattle.stark_quotient.specs.PointwiseQuotient.{matrix_or_empty}
use Rattle.stark_quotient.proofs.LaneRows.{lane_read, row_number, rows_there, table_in_lane, two_round}
use Rattle.stark_quotient.proofs.PointSteps.{quotient_of_rows}
use Rattle.stark_quotient.proofs.quotient.quotients_of_group.Goals as goal

pub returns-clause-quotients : goal.returns-clause-quotients
returns-clause-quotients g c = λ i below within.
    let on = c.args.on.now in
    let start = c.args.start in
    let k = start + i in
    let val = g.met.SC.Pcs.Domain.Val in
    let challenge = g.met.SC.Challenge in
    let field = g.SC.Challenge.ExtensionField in
    let lanes = g.G.Packed.PackedValue.lanes in
    let zero = g.SC.Pcs.Domain.Val.Field.ring.zero in
    let trace = g.SC.Pcs.Domain.PolynomialSpace.coset_of on.trace_domain in
    let coset = g.SC.Pcs.Domain.PolynomialSpace.coset_of on.quotient_domain in
    let narrow = subst (λ n. i < n) g.met.G.GroupEval.as_wide below in
    let wide : (p : g.row.G-Packed.Denot) → i < length (lanes p) = λ p. subst (λ n. i < n) (sym (g.met.G.Packed.PackedValue.lane_by_lane.as_many p)) narrow in
    let inside = subst (λ n. k < n) c.requires.placed.size within in
    let main : Trace g.row.SC-Pcs-Domain-Val.Denot = record { width = on.main.now.width; values = on.main.now.values.items } in
    let preprocessed = matrix_or_empty (option_map (λ m. record { width = m.now.width; values = m.now.values.items }) on.preprocessed) in
    let next = (k + on.step) % on.size in
    let next_is : next ≡ (k + coset_size coset / coset_size trace) % coset_size coset =
    ap (λ s. (k + s) % on.size) (c.requires.placed.step ∙ ap (λ n. n / coset_size trace) c.requires.placed.size) ∙ ap (λ n. (k + coset_size coset / coset_size trace) % n) c.requires.placed.size in
    let here : (start + i) % on.size ≡ k = mod-eq_of_lt within in
    let there : (start + on.step + i) % on.size ≡ next = ap (λ n. n % on.size) (let e : start + on.step + i ≡ k + on.step = omega arith in e) in
    let rows = c.fill_rows.new.rows in
    let filled = c.in_ok-fill_rows.ensures in
    let selectors = c.packed_selectors-selectors.result in
    let read = c.packed_selectors-selectors.ensures in
    let prepared = c.requires.prepared in
    let periodic = lane_values lanes i zero rows.periodic_values.items in
    let first = slice_index_or (lanes selectors.is_first_row) i zero in
    let last = slice_index_or (lanes selectors.is_last_row) i zero in
    let change = slice_index_or (lanes selectors.is_transition) i zero in
    let inverted = slice_index_or (lanes selectors.inv_vanishing) i zero in
    let row : PointRow g.row.SC-Pcs-Domain-Val.Denot = record {
      main_current = matrix_row main.values main.width k;
      main_next = matrix_row main.values main.width next;
      preprocessed_current = matrix_row preprocessed.values preprocessed.width k;
      preprocessed_next = matrix_row preprocessed.values preprocessed.width next;
      public_values = on.public_values.now;
      periodic = periodic;
      first_row = first;
      last_row = last;
      transition = change;
    } in
    let stands : IsLaneRow lanes zero rows.main.items rows.preprocessed.items rows.periodic_values.items selectors.is_first_row selectors.is_last_row selectors.is_transition i row = record {
      main_rows = two_round main on.size (start + i) (start + on.step + i) k next c.requires.rows.main.number here there _ (filled.main i narrow);
      preprocessed_rows = two_round preprocessed on.size (start + i) (start + on.step + i) k next c.requires.rows.preprocessed.number here there _ (filled.preprocessed i narrow);
      periodic_row = refl;
      first_row = refl;
      last_row = refl;
      transition = refl;
    } in
    let room : k < 2 ^ 64 = omega (arith, inside, c.requires.placed.room) in
    let number = row_number main.values main.width on.size k c.requires.rows.main.number within ∙ c.requires.rows.main.width_is ∙ sym c.requires.main_width ∙ sym c.fill_rows.ensures.main_width in
    let preprocessed_number = row_number preprocessed.values preprocessed.width on.size k c.requires.rows.preprocessed.number within ∙ c.requires.rows.preprocessed.width_is ∙ sym c.requires.preprocessed_width ∙ sym c.fill_rows.ensures.preprocessed_width in
    let sum = c.in_ok-sums.ensures i below row stands number preprocessed_number refl in
    c.over_vanishing.ensures i below ∙
    quotient_of_rows val.Field.field_laws challenge.Field.field_laws challenge.ExtensionField.embeds _ g.SC.Pcs.Domain.Val.TwoAdicField.root _ val.TwoAdicField.two_adic trace coset
    (g.met.SC.Pcs.Domain.PolynomialSpace.lawful on.trace_domain) c.requires.placed.subgroup c.requires.placed.disjoint field.basis (g.A.Air.constraints c.args.air.now) (g.A.BaseAir.periodic_columns c.args.air.now)
    prepared main preprocessed on.public_values.now k inside
    on.powers.alpha _ row.main_current row.main_next row.preprocessed_current row.preprocessed_next row.public_values periodic first last change inverted
    sum refl refl (ap (matrix_row main.values main.width) next_is) refl (ap (matrix_row preprocessed.values preprocessed.width) next_is)
    (length-map rows.periodic_values.items (λ v. slice_index_or (lanes v) i zero) ∙ filled.periodic_number)
    (λ n there. table_in_lane lanes zero i rows.periodic_values.items on.periodic.width n (λ m. table_at on.periodic.values.items on.periodic.width on.periodic.period k m) wide filled.periodic_number (λ m p holding. filled.periodic m p holding i narrow room) there)
    (sym (read.first_row i narrow (subst (λ n. k < n) (sym prepared.first_row.number) inside)) ∙ lane_read (lanes selectors.is_first_row) i zero (wide selectors.is_first_row))
    (sym (read.last_row i narrow (subst (λ n. k < n) (sym prepared.last_row.number) inside)) ∙ lane_read (lanes selectors.is_last_row) i zero (wide selectors.is_last_row))
    (sym (read.transition i narrow (subst (λ n. k < n) (sym prepared.transition.number) inside)) ∙ lane_read (lanes selectors.is_transition) i zero (wide selectors.is_transition))
    (sym (read.inv_vanishing i narrow (subst (λ n. k < n) (sym prepared.inv_vanishing.number) inside)) ∙ lane_read (lanes selectors.inv_vanishing) i zero (wide selectors.inv_vanishing))

pub fill_rows-requires-clause-room : goal.fill_rows-requires-clause-room
fill_rows-requires-clause-room g c =
    let on = c.args.on.now in
    omega (arith, c.requires.placed.step, c.requires.placed.room, c.requires.within, div-le_self on.size (coset_size (g.SC.Pcs.Domain.PolynomialSpace.coset_of on.trace_domain)))

pub fill_rows-requires-clause-main : goal.fill_rows-requires-clause-main
fill_rows-requires-clause-main g c =
    let on = c.args.on.now in
    let some : 0 < on.size = omega (arith, c.requires.within) in
    rows_there (λ m. m.now) (λ m. record { width = m.width; values = m.values.items }) (g.A.BaseAir.layout c.args.air.now).main on.size (Some on.main) some c.requires.rows.main

pub fill_rows-requires-clause-preprocessed : goal.fill_rows-requires-clause-preprocessed
fill_rows-requires-clause-preprocessed g c =
    let on = c.args.on.now in
    let some : 0 < on.size = omega (arith, c.requires.within) in
    rows_there (λ m. m.now) (λ m. record { width = m.width; values = m.values.items }) (g.A.BaseAir.layout c.args.air.now).preprocessed on.size on.preprocessed some c.requires.rows.preprocessed

pub fold-requires-clause-rows : goal.fold-requires-clause-rows
fold-requires-clause-rows g c = record {
  main = c.in_ok-fill_rows.ensures.main_number ∙ ap (λ n. 2 * n) (c.requires.rows.main.width_is ∙ sym c.requires.main_width ∙ sym c.fill_rows.ensures.main_width);
  main_width = c.fill_rows.ensures.main_width ∙ c.requires.main_width;
  preprocessed = c.in_ok-fill_rows.ensures.preprocessed_number ∙ ap (λ n. 2 * n) (c.requires.rows.preprocessed.width_is ∙ sym c.requires.preprocessed_width ∙ sym c.fill_rows.ensures.preprocessed_width);
  preprocessed_width = c.fill_rows.ensures.preprocessed_width ∙ c.requires.preprocessed_width;
  public_values = c.requires.rows.public_values;
  periodics = c.in_ok-fill_rows.ensures.periodic_number ∙ c.requires.prepared.periodic.count ∙ sym (g.met.A.BaseAir.as_declared c.args.air.now).periodic_columns;
}
