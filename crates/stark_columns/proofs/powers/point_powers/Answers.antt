use Rattle.std.proofs.Common.{◌∙◌, arith, refl}
use Rattle.stark_support.specs.Points.{powers_from}
use Rattle.stark_support.specs.Powers.{power}
use Rattle.stark_support.proofs.InOrder.{next_listed, none_listed}
use Rattle.stark_columns.proofs.PowerSums.{all_of_powers, next_power, zeroth_power}
use Rattle.stark_columns.proofs.powers.point_powers.Goals as goal

pub loop-index-init : goal.loop-index-init
loop-index-init g c = (
  none_listed (power g.EF.Field.ring c.args.point) (powers_from g.EF.Field.ring c.args.point) (λ m n. refl) c.power_count-count.result c.in_ok-powers.powers.items c.in_ok-powers.ensures.items,
  zeroth_power g.EF.Field.ring c.args.point c.ONE-power.result (c.ONE-power.ensures ∙ g.met.EF.Field.one_is),
)

pub loop-index-preserved : goal.loop-index-preserved
loop-index-preserved g c =
    let ring = g.EF.Field.ring in
    let i = c.loop-index._index in (
      next_listed (power ring c.args.point) (powers_from ring c.args.point) (λ m n. refl) c.power_count-count.result i c.loop-index.powers.items c.push.new.self.items (powers_from ring c.args.point 0 c.power_count-count.result) c.loop-index.power (omega arith) c.loop-index.invariant.1 c.in_ok-push.ensures.items c.loop-index.invariant.0,
      g.met.EF.Field.mul_is _ _ _ c.mul-power.ensures ∙ next_power ring c.args.point i c.loop-index.power c.loop-index.invariant.1,
    )

pub returns : goal.returns
returns g c = all_of_powers g.EF.Field.ring c.args.point c.loop-index.powers.items c.power_count-count.result c.loop-index._index c.loop-index-test.false c.loop-index.invariant.0
