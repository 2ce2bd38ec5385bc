use Rattle.std.proofs.Common.{◌≡◌, ◌+◌, ◌*◌, ◌∙◌, ap}
use Rattle.stark_support.specs.PeriodicTable.{table_at}
use Rattle.stark_quotient.proofs.LaneRows.{in_period}
use Rattle.stark_quotient.proofs.packed_rows.row_in_period.Goals as goal

pub returns-in-Some-clause-same : goal.returns-in-Some-clause-same
returns-in-Some-clause-same g c = λ r k.
    let table = c.args.table.now in
    let rows_are : c.in-Some.rows ≡ c.packed_group_period.result * c.args.group = c.in-Some.ensures.1 in
    in_period (λ n. table_at table.values.items table.width table.period n k) c.in-Some.rows
    (λ n. ap (λ m. table_at table.values.items table.width table.period (n + m) k) rows_are ∙ c.packed_group_period.ensures.begins_again n k) c.args.start r
