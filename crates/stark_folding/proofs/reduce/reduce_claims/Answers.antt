use Rattle.std.proofs.Common.{◌≡◌, ◌∙◌, ◌+◌, ◌-◌, arith}
use Rattle.stark_folding.proofs.Steps.{apart_at, none_reduced, one_more_reduced}
use Rattle.stark_folding.proofs.reduce.reduce_claims.Goals as goal

pub loop-index-init : goal.loop-index-init
loop-index-init g c = (omega arith, none_reduced g.F.Field.ring g.F.Field.inverse_of c.args.alpha c.args.x c.args.claims.now c.ZERO-sum.result (c.ZERO-sum.ensures ∙ g.met.F.Field.zero_is))

pub inverse-requires : goal.inverse-requires
inverse-requires g c =
    let turn = c.loop-index-test.true in
    let within = c.loop-index.invariant.0 in
    apart_at g.met.F.Field.field_laws c.args.x c.args.claims.now (c.loop-index.index - 1) c.index-claims-index.result c.sub-in-loop-index.result c.requires (omega arith) c.index-claims-index.is
    (g.met.F.Field.sub_is _ _ _ c.sub-in-loop-index.ensures)

pub loop-index-preserved : goal.loop-index-preserved
loop-index-preserved g c =
    let turn = c.loop-index-test.true in
    let within = c.loop-index.invariant.0 in
    let next : c.loop-index.index - 1 + 1 ≡ c.loop-index.index = omega arith in (
      omega arith,
      one_more_reduced g.F.Field.ring g.F.Field.inverse_of c.args.alpha c.args.x c.args.claims.now (c.loop-index.index - 1) c.loop-index.index c.index-claims-index.result
          c.sub.result c.sub-in-loop-index.result c.inverse.result c.mul.result c.mul-in-loop-index.result c.loop-index.sum c.add-sum.result (omega arith) next c.index-claims-index.is
          (g.met.F.Field.sub_is _ _ _ c.sub.ensures) (g.met.F.Field.sub_is _ _ _ c.sub-in-loop-index.ensures) c.inverse.ensures
          (g.met.F.Field.mul_is _ _ _ c.mul.ensures) (g.met.F.Field.mul_is _ _ _ c.mul-in-loop-index.ensures) (g.met.F.Field.add_is _ _ _ c.add-sum.ensures) c.loop-index.invariant.1,
    )
