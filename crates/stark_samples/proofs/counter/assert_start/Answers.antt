use Rattle.std.proofs.Common.{rules, arith}
use Rattle.stark_air.specs.Tree.{first_row, main_current, public_value}
use Rattle.stark_air.proofs.Steps.{shown, shown_read}
use Rattle.stark_air.proofs.Lent.{filtered_eq, filtered_refused}
use Rattle.stark_samples.proofs.counter.assert_start.Goals as goal

pub returns-clause-asserted : goal.returns-clause-asserted
returns-clause-asserted g c =
    let when = c.when_first_row.ensures in
    filtered_eq g.met.AB.BaseAirBuilder.emission_laws g.AB.Expr.Algebra.operations g.AB.Expr.Algebra.stands _ _ _ _ _ _ _ _ first_row (main_current 0) (public_value 0) _ _
    c.assert_eq.ensures.asserted when.same_value (search rules) when.same_condition (search (rules, shown, arith))
    (shown_read _ _ _ _ _ 0 _ _ c.public_values.ensures (omega arith) c.index-public_values-0.is c.into-2.ensures)

pub returns-clause-refused : goal.returns-clause-refused
returns-clause-refused g c =
    let when = c.when_first_row.ensures in
    filtered_refused g.met.AB.BaseAirBuilder.emission_laws g.AB.Expr.Algebra.operations _ _ _ _ _ _ _ _ _ first_row c.assert_eq.ensures.refused when.same_value (search rules) when.same_condition
