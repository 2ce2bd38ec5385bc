use Rattle.std.proofs.Common.{◌≡◌, ◌∙◌, ◌+◌, ◌-◌, arith}
use Rattle.stark_logup.proofs.Steps.{more_above, more_below, none_above, none_below}
use Rattle.stark_logup.proofs.columns.group_fraction.Goals as goal

pub loop-index-init : goal.loop-index-init
loop-index-init g c = (
  omega arith,
  (
    none_below g.F.Field.ring c.args.gamma c.args.group.now c.ONE-below.result (c.ONE-below.ensures ∙ g.met.F.Field.one_is),
    none_above g.F.Field.ring c.args.gamma c.args.group.now c.ZERO-above.result (c.ZERO-above.ensures ∙ g.met.F.Field.zero_is),
  ),
)

pub loop-index-preserved : goal.loop-index-preserved
loop-index-preserved g c =
    let ring = g.F.Field.ring in
    let field = g.met.F.Field in
    let turn = c.loop-index-test.true in
    let most = c.loop-index.invariant.0 in
    let i = c.loop-index.index - 1 in
    let next : i + 1 ≡ c.loop-index.index = omega arith in
    let p = c.index-group-index.result in
    let gap = field.sub_is _ _ _ c.sub-gap.ensures in (
      omega arith,
      (
        more_below ring c.args.gamma c.args.group.now i c.loop-index.index p next (omega arith) c.index-group-index.is c.sub-gap.result c.loop-index.below c.mul-below.result gap
            (field.mul_is _ _ _ c.mul-below.ensures) c.loop-index.invariant.1.0,
        more_above ring c.args.gamma c.args.group.now i c.loop-index.index p next (omega arith) c.index-group-index.is c.sub-gap.result c.loop-index.below c.loop-index.above c.mul.result c.mul-in-loop-index.result
            c.add-above.result gap (field.mul_is _ _ _ c.mul.ensures) (field.mul_is _ _ _ c.mul-in-loop-index.ensures) (field.add_is _ _ _ c.add-above.ensures) c.loop-index.invariant.1.0 c.loop-index.invariant.1.1,
      ),
    )
