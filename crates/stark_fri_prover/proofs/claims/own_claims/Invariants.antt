use Rattle.std.proofs.Common.{map}
use Rattle.stark_columns.specs.Columns.{columns_list}
use Rattle.stark_support.specs.Claims.{round_view}
use Rattle.stark_fri.specs.Claims.{rounds_in}
use Rattle.stark_fri_prover.specs.OwnClaims.{matrix_claims}
use Rattle.stark_fri_prover.proofs.PairSteps.{PairedTo}
use Rattle.stark_fri_prover.proofs.claims.own_claims.Given as goal

abbrev pub invariant-loop-i : goal.invariant-loop-i
invariant-loop-i g l =
    PairedTo (λ r matrices. (r.0.root, matrix_claims r.0.domain.log_size r.1 matrices)) round_view (λ round. map columns_list round.items) l.rounds l.opened l.i
    (rounds_in (λ d. record { shift = d.shift; log_size = d.log_size }) l.claims.items)
