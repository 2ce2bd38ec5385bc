use Rattle.stark_prover.proofs.CommitSteps.{rows_of_stands}
use Rattle.stark_prover.proofs.quotient.trace_values.Goals as goal

pub returns : goal.returns
returns g c = λ degree_bits columns commitment stands.
    rows_of_stands g.SC.Pcs.Pcs.scheme _ _ g.SC.Pcs.Domain.Val.Field.ring _ c.pcs-pcs.ensures _ columns degree_bits commitment _ _ _ c.in_ok-rows.ensures stands
