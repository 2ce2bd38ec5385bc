use Rattle.std.proofs.Common.{◌≢◌}
use Rattle.stark_protocol.proofs.WeightedSums.{AreSummed}
use Rattle.stark_protocol.proofs.recomposition.recompose_by_weights.Given as goal

abbrev pub invariant-loop-i : goal.invariant-loop-i
invariant-loop-i g l =
    (l.weights ≢ g.D.Val.Field.ring.zero)
    × AreSummed g.D.Val.Field.ring g.EF.Field.ring g.EF.Field.inverse_of g.EF.ExtensionField.embed g.D.PolynomialSpace.coset_of (λ chunk. chunk.items) l.log_size g.EF.ExtensionField.basis l.fn.zeta l.domains l.chunks
    l.i l.product l.sum l.weights
