use Rattle.stark_support.proofs.Loops.{Left}
use Rattle.stark_fri_prover.specs.Commit.{HasRow}
use Rattle.stark_fri_prover.proofs.commit.have_row.Given as goal

abbrev pub invariant-loop-matrix : goal.invariant-loop-matrix
invariant-loop-matrix g l = Left (λ m. m) (HasRow l.place) l.extended l.matrix-index
