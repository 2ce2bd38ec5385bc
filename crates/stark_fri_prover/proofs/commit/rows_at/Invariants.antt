use Rattle.std.proofs.Common.{map}
use Rattle.stark_merkle.specs.Tree.{items_of}
use Rattle.stark_fri_prover.specs.Commit.{HasRow, row_of}
use Rattle.stark_fri_prover.proofs.Steps.{IsReadTo}
use Rattle.stark_fri_prover.proofs.commit.rows_at.Given as goal

abbrev pub invariant-loop-matrix : goal.invariant-loop-matrix
invariant-loop-matrix g l = IsReadTo (HasRow l.place) (row_of l.place) l.extended l.matrix-index (map items_of l.rows.items)
