use Rattle.std.proofs.Common.{◌≤◌, length}
use Rattle.stark_lookup_extension.specs.Written.{ByTrees}
use Rattle.stark_lookup_extension.proofs.EquationSteps.{TotalFrom}
use Rattle.stark_lookup_extension.proofs.equations.lists_sum.Given as goal

abbrev pub invariant-loop-index : goal.invariant-loop-index
invariant-loop-index g l = (l.index ≤ length l.rows) × ByTrees g.F.Field.ring (λ trees. TotalFrom trees l.fn.list l.rows l.index l.total.items l.list)

abbrev pub decreases-loop-index : goal.decreases-loop-index
decreases-loop-index g l = l.index
