use Rattle.std.proofs.Common.{◌≡◌, length, drop}
use Rattle.stark_tree_air.specs.Needed.{mark_constraints}
use Rattle.stark_tree_air.specs.Nodes.{ConstraintsFit}
use Rattle.stark_tree_air.proofs.needed.mark_constraints.Given as goal

abbrev pub invariant-loop-constraint : goal.invariant-loop-constraint
invariant-loop-constraint l =
    (mark_constraints l.marks (drop l.constraint-index l.constraints) ≡ mark_constraints l.fn.marks l.constraints)
    × ConstraintsFit (length l.marks) (drop l.constraint-index l.constraints)
