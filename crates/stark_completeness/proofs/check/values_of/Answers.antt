use Rattle.std.proofs.Common.{◌≡◌, ◌∙◌, ◌+◌, ◌%◌, ap, arith, length, map, subst}
use Rattle.std.specs.Prelude.{IfOk}
use Rattle.std.specs.Vec.{vec_items}
use Rattle.std.proofs.lemmas.List.{length-map}
use Rattle.stark_air.specs.Value.{constraint_values}
use Rattle.stark_support.specs.Operations.{ring_operations}
use Rattle.stark_support.specs.Scheme.{matrix_row}
use Rattle.stark_completeness.specs.RowCheck.{entry_in_row}
use Rattle.stark_completeness.proofs.RowCheckSteps.{same_leaves}
use Rattle.stark_completeness.proofs.check.values_of.Goals as goal

pub values_in_row-requires : goal.values_in_row-requires
values_in_row-requires g c =
    let fits = c.requires.fits in
    let columns = c.args.trace.now.periodic_columns.now in
    let entries = ap length c.requires.periodic ∙ length-map (map vec_items columns) (entry_in_row g.F.Field.ring.zero c.args.row) ∙ length-map columns vec_items in
    record {
      main = omega (arith, fits.main_width, c.row_of.ensures.width);
      main_next = omega (arith, fits.main_width, fits.main_next, c.row_of-2.ensures.width);
      preprocessed = omega (arith, fits.preprocessed_width, c.row_of-3.ensures.width);
      preprocessed_next = omega (arith, fits.preprocessed_width, fits.preprocessed_next, c.row_of-4.ensures.width);
      public_values = omega (arith, fits.public_values);
      periodics = omega (arith, fits.periodics, entries);
    }

pub returns : goal.returns
returns g c =
    let ring = g.F.Field.ring in
    let t = c.args.trace.now in
    let at = c.row_after-next.ensures.next ∙ ap (λ n. (c.args.row + 1) % n) c.power_of_two.ensures in
    let s = c.requires.selectors in
    let same = same_leaves ring t.public_values.now c.row_of.ensures.values (c.row_of-2.ensures.values ∙ ap (matrix_row t.main.values.now t.main.width) at)
    c.row_of-3.ensures.values (c.row_of-4.ensures.values ∙ ap (matrix_row t.preprocessed.values.now t.preprocessed.width) at) c.requires.periodic s.first_is s.last_is s.transition_is in
    subst (λ e. IfOk c.values_in_row.result (λ made. made.items ≡ constraint_values (ring_operations ring (λ k. k)) e (g.A.Air.constraints c.args.air.now))) same c.values_in_row.ensures
