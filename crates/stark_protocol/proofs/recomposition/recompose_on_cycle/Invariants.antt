use Rattle.stark_protocol.proofs.WeightedSums.{AreSummed}
use Rattle.stark_protocol.proofs.recomposition.recompose_on_cycle.Given as goal

abbrev pub invariant-loop-i : goal.invariant-loop-i
invariant-loop-i g l =
    AreSummed g.D.Val.Field.ring g.EF.Field.ring g.EF.Field.inverse_of g.EF.ExtensionField.embed g.D.PolynomialSpace.coset_of (λ chunk. chunk.items) l.log_size g.EF.ExtensionField.basis l.fn.zeta l.domains l.chunks
    l.i l.product l.sum l.weight
