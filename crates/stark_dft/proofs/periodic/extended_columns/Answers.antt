use Rattle.std.proofs.Common.{◌∙◌, ◌∷◌, ◌^◌, Some, [], ap, map, vec_len}
use Rattle.std.proofs.lemmas.List.{map-append}
use Rattle.stark_support.specs.Coset.{coset_point}
use Rattle.stark_support.specs.Periodic.{periodic_value}
use Rattle.stark_support.specs.PeriodicFacts.{power_of_column}
use Rattle.stark_dft.specs.Columns.{column_list}
use Rattle.stark_dft.proofs.PeriodicSteps.{mapped_here, one_more_extended}
use Rattle.stark_dft.proofs.periodic.extended_columns.Goals as goal

pub extended_column-requires-clause-power : goal.extended_column-requires-clause-power
extended_column-requires-clause-power g c =
    power_of_column vec_len c.args.columns.now.trace_len c.args.columns.now.columns.now c.loop-column.column-index c.column-item.result _ c.args.columns.now.fit c.loop-column-test.true c.column-item.is c.deref.ensures.len

pub loop-column-preserved : goal.loop-column-preserved
loop-column-preserved g c =
    let ring = g.F.Field.ring in
    let root = g.F.TwoAdicField.root in
    let n = c.args.log_height in
    let of = periodic_value ring g.F.Field.inverse_of (root n) (2 ^ n) ring (λ x. x) in
    let columns = c.args.columns.now.columns.now in
    let i = c.loop-column.column-index in
    let column = c.column-item.result in
    let values = c.in_ok-values.values.items in
    one_more_extended ring root (record { shift = c.args.shift; log_size = c.args.log_size }) of (map column_list columns) i (map column_list c.loop-column.extended.items) (map column_list c.push.new.self.items)
    column.items values c.loop-column.invariant (mapped_here column_list columns i column c.loop-column-test.true c.column-item.is)
    c.in_ok-values.ensures.power
    (λ r. c.in_ok-values.ensures.rows r ∙ ap (λ t. Some (of t (coset_point ring root (record { shift = c.args.shift; log_size = c.args.log_size }) r))) c.deref.ensures.value)
    (ap (map column_list) c.in_ok-push.ensures.items ∙ map-append column_list c.loop-column.extended.items (c.in_ok-values.values ∷ []))
