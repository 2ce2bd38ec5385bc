use Rattle.stark_protocol.proofs.Carried.{on_ok}
use Rattle.stark_completeness.specs.RowValues.{AreRowValues}
use Rattle.stark_completeness.proofs.RowCheckSteps.{said_of_given}
use Rattle.stark_completeness.proofs.row_values.constraint_values.Goals as goal

pub returns : goal.returns
returns g c =
    on_ok _ _ c.values_in_rows.result (λ all are log_height number.
    said_of_given g.F.Field.ring g.F.Field.inverse_of g.F.TwoAdicField.root (g.A.Air.constraints c.args.air.now) (λ i r. AreRowValues i r all.items) c.checked_trace-checked.ensures.given log_height number are) c.values_in_rows.ensures
