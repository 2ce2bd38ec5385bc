use Rattle.std.proofs.Common.{◌≡◌, drop}
use Rattle.stark_symbolic.specs.DegreePair.{fitting_pair, greatest_from}
use Rattle.stark_symbolic.proofs.degree.greatest_of.Given as goal

abbrev pub invariant-loop-constraint : goal.invariant-loop-constraint
invariant-loop-constraint l = greatest_from l.greatest (drop l.constraint-index l.constraints) ≡ greatest_from (fitting_pair 0 0) l.constraints
