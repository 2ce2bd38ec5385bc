use Rattle.stark_lookup_extension.specs.Written.{StandsAt}
use Rattle.stark_air.specs.Tree.{constant}
use Rattle.stark_lookup_extension.proofs.LeafSteps.{KnownSoFar}
use Rattle.stark_lookup_extension.proofs.leaves.constants.Given as goal

abbrev pub invariant-loop-value : goal.invariant-loop-value
invariant-loop-value g l = KnownSoFar StandsAt constant l.fn.list l.values l.value-index l.all.items l.list
