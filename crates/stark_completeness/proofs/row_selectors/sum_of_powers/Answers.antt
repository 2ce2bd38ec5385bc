use Rattle.std.proofs.Common.{◌∙◌}
use Rattle.stark_completeness.proofs.RowCheckSteps.{no_power, no_powers, power_grows, sum_grows}
use Rattle.stark_completeness.proofs.row_selectors.sum_of_powers.Goals as goal

pub loop-exponent-init : goal.loop-exponent-init
loop-exponent-init g c =
    let field = g.met.F.Field in
    (c.ZERO-sum.ensures ∙ field.zero_is ∙ no_powers g.F.Field.ring c.args.x, c.ONE-next.ensures ∙ field.one_is ∙ no_power g.F.Field.ring c.args.x)

pub loop-exponent-preserved : goal.loop-exponent-preserved
loop-exponent-preserved g c =
    let field = g.met.F.Field in
    let ring = g.F.Field.ring in
    let k = c.loop-exponent._exponent in (
      sum_grows ring c.args.x c.loop-exponent.next c.loop-exponent.sum _ k (field.add_is _ _ _ c.add-sum.ensures) c.loop-exponent.invariant.1 c.loop-exponent.invariant.0,
      power_grows ring c.args.x c.loop-exponent.next _ k (field.mul_is _ _ _ c.mul-next.ensures) c.loop-exponent.invariant.1,
    )
