use Rattle.std.proofs.Common.{◌≡◌, map, drop}
use Rattle.stark_support.specs.Powers.{squarings}
use Rattle.stark_protocol.specs.ChunkFactors.{difference_product}
use Rattle.stark_protocol.proofs.recomposition.differences.Given as goal

abbrev pub invariant-loop-domain : goal.invariant-loop-domain
invariant-loop-domain g l =
    let base = g.D.Val.Field.ring in
    let node = λ (o : g.row.D.Denot). squarings base (g.D.PolynomialSpace.coset_of o).shift l.log_size in
    base.mul l.product (difference_product base l.x (map node (drop l.domain-index l.domains))) ≡ difference_product base l.x (map node l.domains)
