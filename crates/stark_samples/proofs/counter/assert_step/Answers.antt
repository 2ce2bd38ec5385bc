use Rattle.std.proofs.Common.{rules, arith}
use Rattle.stark_air.specs.Tree.{transition, main_current, main_next, difference}
use Rattle.stark_air.proofs.Steps.{shown}
use Rattle.stark_air.proofs.Lent.{filtered_one, filtered_refused}
use Rattle.stark_samples.proofs.counter.assert_step.Goals as goal

pub returns-clause-asserted : goal.returns-clause-asserted
returns-clause-asserted g c =
    let when = c.when_transition.ensures in
    filtered_one g.met.AB.BaseAirBuilder.emission_laws g.AB.Expr.Algebra.operations g.AB.Expr.Algebra.stands _ _ _ _ _ _ _ _ transition (difference (main_next 0) (main_current 0)) _ _
    c.assert_one.ensures.asserted when.same_value (search rules) when.same_condition (search (rules, shown, arith))

pub returns-clause-refused : goal.returns-clause-refused
returns-clause-refused g c =
    let when = c.when_transition.ensures in
    filtered_refused g.met.AB.BaseAirBuilder.emission_laws g.AB.Expr.Algebra.operations _ _ _ _ _ _ _ _ _ transition c.assert_one.ensures.refused when.same_value (search rules) when.same_condition
