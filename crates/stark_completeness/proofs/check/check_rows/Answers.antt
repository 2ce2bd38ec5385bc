use Rattle.std.proofs.Common.{◌∙◌, ◌<◌, ◌^◌, ap, arith}
use Rattle.stark_protocol.proofs.Carried.{carried}
use Rattle.stark_completeness.specs.CheckedRows.{checked_air, checked_rows}
use Rattle.stark_completeness.proofs.RowCheckSteps.{first_of_all, no_power, power_grows, rows_grow}
use Rattle.stark_completeness.proofs.check.check_rows.Goals as goal

pub loop-row-init : goal.loop-row-init
loop-row-init g c = (λ k below. absurd (omega (arith, below)), c.ONE-point.ensures ∙ g.met.F.Field.one_is ∙ no_power g.F.Field.ring (g.F.TwoAdicField.root c.args.trace.now.log_height))

pub returns-in_err-check_row-clause-broken : goal.returns-in_err-check_row-clause-broken
returns-in_err-check_row-clause-broken g c =
    let i = checked_air g.F.Field.ring g.F.Field.inverse_of g.F.TwoAdicField.root (g.A.Air.constraints c.args.air.now) c.args.trace.now in
    let below : c.loop-row.row < 2 ^ c.args.trace.now.log_height = omega (arith, c.loop-row-test.true, c.power_of_two-height.ensures) in
    carried _ _ _ c.from_residual.ensures (first_of_all i (checked_rows c.args.trace.now) c.loop-row.row _ below c.loop-row.invariant.0 c.in_err-check_row.ensures.broken)

pub loop-row-preserved : goal.loop-row-preserved
loop-row-preserved g c =
    let i = checked_air g.F.Field.ring g.F.Field.inverse_of g.F.TwoAdicField.root (g.A.Air.constraints c.args.air.now) c.args.trace.now in
    let root = g.F.TwoAdicField.root c.args.trace.now.log_height in (
      rows_grow i (checked_rows c.args.trace.now) c.loop-row.row c.loop-row.invariant.0 c.in_ok-check_row.ensures.holds,
      power_grows g.F.Field.ring root c.loop-row.point _ c.loop-row.row (g.met.F.Field.mul_is _ _ _ c.mul-point.ensures ∙ ap (λ x. g.F.Field.ring.mul x c.loop-row.point) c.new-selectors.ensures.generator_is) c.loop-row.invariant.1,
    )
