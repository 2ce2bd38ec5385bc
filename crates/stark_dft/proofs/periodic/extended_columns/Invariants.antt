use Rattle.std.proofs.Common.{◌^◌, map}
use Rattle.stark_support.specs.Periodic.{periodic_value}
use Rattle.stark_dft.specs.Columns.{column_list}
use Rattle.stark_dft.specs.Repeated.{AreExtended}
use Rattle.stark_dft.proofs.periodic.extended_columns.Given as goal

abbrev pub invariant-loop-column : goal.invariant-loop-column
invariant-loop-column g l =
    let ring = g.F.Field.ring in
    let root = g.F.TwoAdicField.root in
    AreExtended ring root (record { shift = l.shift; log_size = l.log_size })
    (periodic_value ring g.F.Field.inverse_of (root l.log_height) (2 ^ l.log_height) ring (λ x. x)) (map column_list l.fn.columns.columns.now) l.column-index (map column_list l.extended.items)
