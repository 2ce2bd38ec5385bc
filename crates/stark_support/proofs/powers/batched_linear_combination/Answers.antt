use Rattle.std.proofs.Common.{◌-◌, length, arith, subst, rules}
use Rattle.std.proofs.lemmas.List.{drop_all}
use Rattle.stark_support.proofs.CombinationSteps.{no_term, one_more_term}
use Rattle.stark_support.proofs.Places.{from_place}
use Rattle.stark_support.proofs.powers.batched_linear_combination.Goals as goal

pub loop-index-init : goal.loop-index-init
loop-index-init g c =
    let algebra = g.met.A.Algebra in (
      omega arith,
      no_term g.A.Algebra.operations g.A.Algebra.stands g.F.Field.ZERO _ _ c.from-sum.result (drop_all (length c.args.values.now) c.args.values.now (omega arith))
          (subst (λ z. g.A.Algebra.stands (g.A.Algebra.operations.embed z) c.from-sum.result) c.ZERO.ensures (algebra.embed_stands c.ZERO.result c.from-sum.result c.from-sum.ensures)),
    )

pub loop-index-preserved : goal.loop-index-preserved
loop-index-preserved g c =
    let algebra = g.met.A.Algebra in
    let operations = g.A.Algebra.operations in
    let k = c.index-coefficients-index.result in
    let i = c.loop-index.index - 1 in (
      omega arith,
      one_more_term operations g.A.Algebra.stands g.F.Field.ZERO _ _ _ _ c.index-values-index.result k c.loop-index.sum c.add-sum.result
          (from_place c.args.values.now i c.loop-index.index c.index-values-index.result (omega arith) (omega arith) c.index-values-index.is)
          (from_place c.args.coefficients.now i c.loop-index.index k (omega arith) (omega (arith, c.requires)) c.index-coefficients-index.is)
          c.loop-index.invariant.1
          (λ v w sv sw. algebra.plus_stands c.mul.result c.loop-index.sum c.add-sum.result (operations.times v (operations.embed k)) w c.add-sum.ensures
          (algebra.times_stands c.dup.result c.from.result c.mul.result v (operations.embed k) c.mul.ensures (c.dup.ensures v sv) (algebra.embed_stands k c.from.result c.from.ensures)) sw),
    )

pub returns : goal.returns
returns g c = search rules
