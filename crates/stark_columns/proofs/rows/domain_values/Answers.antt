use Rattle.std.proofs.Common.{◌∙◌, sym, length, map}
use Rattle.std.proofs.lemmas.List.{length-map}
use Rattle.stark_columns.specs.Columns.{column_list}
use Rattle.stark_columns.specs.RowFacts.{has_rows}
use Rattle.stark_columns.proofs.rows.domain_values.Goals as goal

pub returns : goal.returns
returns g c =
    has_rows g.F.Field.ring g.F.TwoAdicField.root (record { shift = c.args.domain.now.shift; log_size = c.args.domain.now.log_size }) (map column_list c.args.columns.now) c.deref.result.now c.in_ok-values-2.values.items (length c.args.columns.now)
    (c.deref.ensures.value ∙ c.in_ok-points.ensures) c.in_ok-values-2.ensures (sym (length-map c.args.columns.now column_list))
