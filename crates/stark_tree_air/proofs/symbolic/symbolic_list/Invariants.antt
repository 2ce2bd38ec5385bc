use Rattle.stark_tree_air.proofs.WrittenConstraints.{Begun}
use Rattle.stark_tree_air.proofs.symbolic.symbolic_list.Given as goal

abbrev pub invariant-loop-constraint : goal.invariant-loop-constraint
invariant-loop-constraint g l = Begun (λ c. c) l.constraints l.constraint-index l.list
