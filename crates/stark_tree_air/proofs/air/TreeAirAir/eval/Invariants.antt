use Rattle.std.proofs.Common.{◌≡◌}
use Rattle.stark_tree_air.proofs.SpelledSteps.{SpelledSoFar}
use Rattle.stark_tree_air.proofs.air.TreeAirAir.eval.Given as goal

abbrev pub invariant-loop-constraint : goal.invariant-loop-constraint
invariant-loop-constraint g l =
    SpelledSoFar g.AB.BaseAirBuilder.environment g.AB.BaseAirBuilder.after g.AB.Expr.Algebra.stands g.AB.Expr.Algebra.operations l.self.list.constants.items l.self.list.nodes.items l.constraints l.needed.items l.values.items l.fn.builder l.constraint-index l.builder
    × (l.constraints ≡ l.self.list.constraints.items)
