use Rattle.stark_support.specs.Powers.{squarings}
use Rattle.stark_protocol.proofs.LagrangeFactors.{weight_computed}
use Rattle.stark_protocol.proofs.recomposition.weight_of.Goals as goal

pub returns : goal.returns
returns g c =
    let base = g.met.D.Val.Field in
    let node = λ (o : g.row.D.Denot). squarings g.D.Val.Field.ring (g.D.PolynomialSpace.coset_of o).shift c.args.log_size in
    weight_computed base.field_laws.of_ring node c.args.domains.now c.args.index c.index-domains-index.result c.node_of-node.result c.differences.result c.differences-2.result c.mul.result
    c.requires.place c.index-domains-index.is c.node_of-node.ensures c.differences.ensures c.differences-2.ensures (base.mul_is _ _ _ c.mul.ensures)
