use Rattle.stark_protocol.proofs.Carried.{on_err, on_ok}
use Rattle.stark_completeness.specs.RowCheck.{IsFirstViolation}
use Rattle.stark_completeness.specs.RowSatisfaction.{HoldsInEachRow}
use Rattle.stark_completeness.proofs.RowCheckSteps.{follows_of, said_of_given}
use Rattle.stark_completeness.proofs.check.check_constraints.Goals as goal

pub returns-clause-satisfied : goal.returns-clause-satisfied
returns-clause-satisfied g c =
    on_ok _ _ c.check_rows.result (λ _ holds log_height number within.
    said_of_given g.F.Field.ring g.F.Field.inverse_of g.F.TwoAdicField.root (g.A.Air.constraints c.args.air.now) HoldsInEachRow c.checked_trace-checked.ensures.given log_height number holds) c.check_rows.ensures.holds

pub returns-clause-broken : goal.returns-clause-broken
returns-clause-broken g c =
    on_err _ _ c.check_rows.result (λ error broken.
    follows_of _ _ (λ violation is_first log_height number.
    said_of_given g.F.Field.ring g.F.Field.inverse_of g.F.TwoAdicField.root (g.A.Air.constraints c.args.air.now) (λ i r. IsFirstViolation i r violation) c.checked_trace-checked.ensures.given log_height number is_first) error broken) c.check_rows.ensures.broken
