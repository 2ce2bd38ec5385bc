use Rattle.stark_lookup_extension.specs.Written.{ByTrees, StandsAt}
use Rattle.stark_lookup_extension.proofs.Loops.{EachSoFar}
use Rattle.stark_lookup_extension.proofs.lists.opposites.Given as goal

abbrev pub invariant-loop-x : goal.invariant-loop-x
invariant-loop-x g l = ByTrees g.F.Field.ring (λ trees. EachSoFar StandsAt StandsAt trees.neg l.fn.list l.xs l.x-index l.all.items l.list)
