use Rattle.stark_lookup_extension.specs.Written.{ByTrees, StandsAt}
use Rattle.stark_lookup_extension.proofs.Loops.{Begun}
use Rattle.stark_lookup_extension.proofs.lists.scaled.Given as goal

abbrev pub invariant-loop-y : goal.invariant-loop-y
invariant-loop-y g l = ByTrees g.F.Field.ring (λ trees. Begun StandsAt StandsAt StandsAt trees.mul l.fn.list l.x l.ys l.y-index l.all.items l.list)
