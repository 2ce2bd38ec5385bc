use Rattle.std.proofs.Common.{map}
use Rattle.stark_columns.specs.Columns.{column_list, columns_list}
use Rattle.stark_fri.specs.Claims.{matrix_seen}
use Rattle.stark_fri_prover.specs.OwnClaims.{point_claims}
use Rattle.stark_fri_prover.proofs.PairSteps.{PairedTo}
use Rattle.stark_fri_prover.proofs.claims.matrix_claims.Given as goal

abbrev pub invariant-loop-i : goal.invariant-loop-i
invariant-loop-i g l =
    PairedTo (λ xs rows. (l.domain.log_size, point_claims xs rows)) column_list columns_list l.points l.opened l.i (map (matrix_seen (λ d. record { shift = d.shift; log_size = d.log_size })) l.claims.items)
