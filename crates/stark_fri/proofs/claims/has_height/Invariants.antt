use Rattle.std.proofs.Common.{◌≡◌}
use Rattle.stark_support.proofs.Loops.{Left}
use Rattle.stark_fri.specs.Claims.{matrix_seen}
use Rattle.stark_fri.proofs.claims.has_height.Given as goal

abbrev pub invariant-loop-matrix : goal.invariant-loop-matrix
invariant-loop-matrix g l = Left (matrix_seen g.D.PolynomialSpace.coset_of) (λ m. m.0 ≡ l.log_height) l.matrices l.matrix-index
