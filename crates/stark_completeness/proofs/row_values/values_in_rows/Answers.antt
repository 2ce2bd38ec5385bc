use Rattle.std.proofs.Common.{◌∙◌, ap}
use Rattle.stark_completeness.proofs.RowCheckSteps.{no_power, power_grows}
use Rattle.stark_completeness.proofs.RowValueSteps.{no_values, values_grow}
use Rattle.stark_completeness.proofs.row_values.values_in_rows.Goals as goal

pub loop-row-init : goal.loop-row-init
loop-row-init g c = (
  no_values _ _ _ c.new-all.ensures.items,
  c.ONE-point.ensures ∙ g.met.F.Field.one_is ∙ no_power g.F.Field.ring (g.F.TwoAdicField.root c.args.trace.now.log_height),
)

pub loop-row-preserved : goal.loop-row-preserved
loop-row-preserved g c = (
  values_grow _ _ c.loop-row.row _ _ c.loop-row.invariant.0 c.in_ok-push_row.ensures,
  power_grows g.F.Field.ring (g.F.TwoAdicField.root c.args.trace.now.log_height) c.loop-row.point _ c.loop-row.row (g.met.F.Field.mul_is _ _ _ c.mul-point.ensures ∙ ap (λ x. g.F.Field.ring.mul x c.loop-row.point) c.new-selectors.ensures.generator_is) c.loop-row.invariant.1,
)
