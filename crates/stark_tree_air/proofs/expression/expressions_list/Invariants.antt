use Rattle.stark_tree_air.proofs.WrittenConstraints.{Begun}
use Rattle.stark_tree_air.proofs.expression.expressions_list.Given as goal

abbrev pub invariant-loop-named : goal.invariant-loop-named
invariant-loop-named g l = Begun (λ c. c.constraint) l.constraints l.named-index l.list
