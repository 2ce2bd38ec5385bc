use Rattle.std.proofs.Common.{◌∙◌, ◌≤◌, ap, length, subst, sym}
use Rattle.std.proofs.lemmas.List.{length-map}
use Rattle.stark_completeness.proofs.RowCheckSteps.{as_many_rows, next_within, same_rows}
use Rattle.stark_completeness.proofs.check.checked_trace.Goals as goal

pub returns-clause-fits : goal.returns-clause-fits
returns-clause-fits g c =
    let laid = c.requires.rows.1 in
    let declared = g.met.A.BaseAir.as_declared c.args.air.now in
    let l = g.A.BaseAir.layout c.args.air.now in
    let log = c.log_height_of.result in
    let is_log = c.log_height_of.ensures c.requires.rows.0 laid.main.number in
    record {
      within = subst (λ n. n ≤ g.F.TwoAdicField.TWO_ADICITY) (sym is_log) laid.within;
      main_width = c.new.ensures.width ∙ laid.main.width_is;
      main_rows = as_many_rows _ c.requires.rows.0 _ log _ (ap length (c.new.ensures.values ∙ c.as_slice.ensures.value) ∙ laid.main.number) is_log c.new.ensures.width;
      main_next = subst (λ n. n ≤ l.main) (sym declared.main_next_row) (next_within _ l.main);
      preprocessed_width = c.view_or_empty.ensures.width ∙ laid.preprocessed.width_is;
      preprocessed_rows = as_many_rows _ c.requires.rows.0 _ log _ (ap length c.view_or_empty.ensures.values ∙ laid.preprocessed.number) is_log c.view_or_empty.ensures.width;
      preprocessed_next = subst (λ n. n ≤ l.preprocessed) (sym declared.preprocessed_next_row) (next_within _ l.preprocessed);
      public_values = laid.number;
      periodics = sym (length-map c.periodic_columns.result.now (λ column. column.items)) ∙ ap length c.periodic_columns.ensures ∙ sym declared.periodic_columns;
    }

pub returns-clause-given : goal.returns-clause-given
returns-clause-given g c = record {
  rows = same_rows c.args.public_values.now (c.new.ensures.values ∙ c.as_slice.ensures.value) c.new.ensures.width c.view_or_empty.ensures.values c.view_or_empty.ensures.width;
  periodic = c.periodic_columns.ensures;
  height = λ log_size number. c.log_height_of.ensures log_size number;
}
