use Rattle.stark_lookup_extension.specs.Written.{ByTrees}
use Rattle.stark_lookup_extension.proofs.ListSteps.{AddedSoFar}
use Rattle.stark_lookup_extension.proofs.lists.sums.Given as goal

abbrev pub invariant-loop-index : goal.invariant-loop-index
invariant-loop-index g l = ByTrees g.F.Field.ring (λ trees. AddedSoFar trees l.fn.list l.xs l.ys l.index l.all.items l.list)
