use Rattle.std.proofs.Common.{rules}
use Rattle.stark_air.specs.Tree.{transition}
use Rattle.stark_air.proofs.Lent.{filtered_refused}
use Rattle.stark_air.proofs.on_rows.assert_eq_on_transition.Goals as goal

pub returns-clause-refused : goal.returns-clause-refused
returns-clause-refused g c =
    let when = c.when_transition.ensures in
    filtered_refused g.met.AB.BaseAirBuilder.emission_laws g.AB.Expr.Algebra.operations _ _ _ _ _ _ _ _ _ transition c.assert_eq.ensures.refused when.same_value (search rules) when.same_condition
