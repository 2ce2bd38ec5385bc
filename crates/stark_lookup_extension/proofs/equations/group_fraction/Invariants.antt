use Rattle.std.proofs.Common.{◌≤◌, length, ◌∷◌, [], List}
use Rattle.stark_lookup_extension.specs.Written.{ByTrees}
use Rattle.stark_lookup_extension.specs.WrittenEquations.{DrawsStand, EntryStands, FractionStands, fraction_of, fraction_with}
use Rattle.stark_lookup_extension.proofs.EquationSteps.{FractionFrom}
use Rattle.stark_lookup_extension.proofs.equations.group_fraction.Given as goal

abbrev pub invariant-loop-index : goal.invariant-loop-index
invariant-loop-index g l = (l.index ≤ length l.group) × ByTrees g.F.Field.ring (λ trees. FractionFrom trees l.draws l.fn.list l.group l.index l.fraction l.list)

abbrev pub decreases-loop-index : goal.decreases-loop-index
decreases-loop-index g l = l.index
