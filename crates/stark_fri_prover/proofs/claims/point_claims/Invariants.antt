use Rattle.std.proofs.Common.{map}
use Rattle.stark_support.specs.Claims.{point_view}
use Rattle.stark_columns.specs.Columns.{column_list}
use Rattle.stark_fri_prover.proofs.PairSteps.{PairedTo}
use Rattle.stark_fri_prover.proofs.claims.point_claims.Given as goal

abbrev pub invariant-loop-i : goal.invariant-loop-i
invariant-loop-i g l = PairedTo (λ x row. (x, row)) (λ x. x) column_list l.points l.rows l.i (map point_view l.claims.items)
