use Rattle.std.proofs.Common.{◌≡◌, ◌++◌, drop, map}
use Rattle.stark_support.specs.Claims.{matrix_view}
use Rattle.stark_protocol.specs.OpenedClaims.{chunk_claim}
use Rattle.stark_verifier.proofs.claims.quotient_round.Given as goal

abbrev pub invariant-loop-chunk : goal.invariant-loop-chunk
invariant-loop-chunk g l =
    let claim = chunk_claim (g.D.PolynomialSpace.coset_of l.domain) l.zeta in
    map (matrix_view g.D.PolynomialSpace.coset_of) l.matrices.items ++ map claim (map (λ chunk. chunk.items) (drop l.chunk-index l.chunks)) ≡ map claim (map (λ chunk. chunk.items) l.chunks)
