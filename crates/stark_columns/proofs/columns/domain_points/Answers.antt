use Rattle.std.proofs.Common.{rules, arith, ◌≡◌, ◌∙◌, ap, refl, map}
use Rattle.stark_support.specs.Points.{powers_from}
use Rattle.stark_columns.specs.ColumnFacts.{first_point, one_more_point, all_points, power_start, power_step}
use Rattle.stark_columns.proofs.columns.domain_points.Goals as goal

pub loop-row-init : goal.loop-row-init
loop-row-init g c =
    let one : c.ONE-power.result ≡ g.F.Field.ring.one = search rules in (
      power_start g.F.Field.ring c.two_adic_generator-generator.result c.ONE-power.result one,
      first_point g.F.Field.ring c.args.domain.now.shift c.two_adic_generator-generator.result c.size-row-end.result c.new-points.result.items _ c.new-points.ensures.items refl,
    )

pub loop-row-preserved : goal.loop-row-preserved
loop-row-preserved g c = (
  power_step g.F.Field.ring c.two_adic_generator-generator.result c.loop-row.power c.mul-power.result c.loop-row._row c.loop-row.invariant.0 (g.met.F.Field.mul_is _ _ _ c.mul-power.ensures),
  one_more_point g.F.Field.ring c.args.domain.now.shift c.two_adic_generator-generator.result c.loop-row._row c.size-row-end.result c.loop-row.power c.mul.result c.loop-row.points.items c.push.new.self.items _
      (omega arith) c.loop-row.invariant.0 (g.met.F.Field.mul_is _ _ _ c.mul.ensures) c.in_ok-push.ensures.items c.loop-row.invariant.1,
)

pub returns : goal.returns
returns g c =
    let ring = g.F.Field.ring in
    let s = c.args.domain.now.shift in
    all_points ring s c.two_adic_generator-generator.result c.loop-row._row c.size-row-end.result c.loop-row.points.items _ (omega arith) c.loop-row.invariant.1
    ∙ ap (λ h. map (ring.mul s) (powers_from ring h 0 c.size-row-end.result)) c.two_adic_generator-generator.ensures
    ∙ ap (λ n. map (ring.mul s) (powers_from ring (g.F.TwoAdicField.root c.args.domain.now.log_size) 0 n)) c.size-row-end.ensures
