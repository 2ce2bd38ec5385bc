use Rattle.std.proofs.Common.{◌≡◌, ◌∙◌, ◌+◌, ◌-◌, length, arith, rules}
use Rattle.stark_lookup_trace.proofs.SumSteps.{more_added, none_added}
use Rattle.stark_lookup_trace.proofs.helpers.total.Goals as goal

pub loop-index-init : goal.loop-index-init
loop-index-init g c = (
  omega arith,
  none_added g.K.Field.ring c.args.values.now (length c.args.values.now) c.ZERO-sum.result (omega arith) (c.ZERO-sum.ensures ∙ g.met.K.Field.zero_is),
)

pub loop-index-preserved : goal.loop-index-preserved
loop-index-preserved g c =
    let turn = c.loop-index-test.true in
    let most = c.loop-index.invariant.0 in
    let i = c.loop-index.index - 1 in
    let next : i + 1 ≡ c.loop-index.index = omega arith in (
      omega arith,
      more_added g.K.Field.ring c.args.values.now i c.loop-index.index c.index-values-index.result c.loop-index.sum c.add-sum.result next (omega arith) c.index-values-index.is
          (g.met.K.Field.add_is _ _ _ c.add-sum.ensures) c.loop-index.invariant.1,
    )

pub returns : goal.returns
returns g c = search rules
