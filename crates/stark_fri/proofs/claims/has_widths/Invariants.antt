use Rattle.stark_support.proofs.Loops.{Left}
use Rattle.stark_fri.specs.Claims.{HasOneWidth, matrix_seen}
use Rattle.stark_fri.proofs.claims.has_widths.Given as goal

abbrev pub invariant-loop-matrix : goal.invariant-loop-matrix
invariant-loop-matrix g l = Left (matrix_seen g.D.PolynomialSpace.coset_of) (λ m. HasOneWidth m.1) l.matrices l.matrix-index
