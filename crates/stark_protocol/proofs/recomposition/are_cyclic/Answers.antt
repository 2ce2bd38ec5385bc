use Rattle.std.proofs.Common.{◌∙◌, sym}
use Rattle.stark_support.specs.Powers.{squarings}
use Rattle.stark_protocol.proofs.CycleWeights.{all_round_seen, one_more_round}
use Rattle.stark_protocol.proofs.recomposition.are_cyclic.Goals as goal

pub loop-i-preserved : goal.loop-i-preserved
loop-i-preserved g c =
    let base = g.met.D.Val.Field in
    let node = λ (o : g.row.D.Denot). squarings g.D.Val.Field.ring (g.D.PolynomialSpace.coset_of o).shift c.args.log_size in
    one_more_round g.D.Val.Field.ring node c.args.domains.now c.loop-i.i c.index-domains-i.result c.index-domains-0.result c.index-domains-i-in-loop-i.result c.index-domains-domains.result
    c.node_of-next.result c.node_of-first.result c.node_of.result c.node_of-second.result c.mul.result c.mul-in-loop-i.result c.loop-i-test.true
    c.index-domains-i.is c.index-domains-0.is c.index-domains-i-in-loop-i.is c.index-domains-domains.is c.node_of-next.ensures c.node_of-first.ensures c.node_of.ensures c.node_of-second.ensures
    (base.mul_is _ _ _ c.mul.ensures) (base.mul_is _ _ _ c.mul-in-loop-i.ensures) (base.eq_same _ _ (sym c.eq-goes_round.ensures ∙ c.if-not-goes_round.false)) c.loop-i.invariant

pub returns-clause-cycle : goal.returns-clause-cycle
returns-clause-cycle g c = λ stated.
    all_round_seen g.D.Val.Field.ring (λ (o : g.row.D.Denot). squarings g.D.Val.Field.ring (g.D.PolynomialSpace.coset_of o).shift c.args.log_size) c.args.domains.now c.loop-i.i c.loop-i-test.false c.loop-i.invariant
