use Rattle.stark_lookup_extension.specs.Written.{ByTrees}
use Rattle.stark_lookup_extension.proofs.EquationSteps.{EquatedSoFar}
use Rattle.stark_lookup_extension.proofs.equations.helper_equations.Given as goal

abbrev pub invariant-loop-index : goal.invariant-loop-index
invariant-loop-index g l = ByTrees g.F.Field.ring (λ trees. EquatedSoFar trees l.draws l.groups l.helpers l.fn.list l.index l.all.items l.list)
