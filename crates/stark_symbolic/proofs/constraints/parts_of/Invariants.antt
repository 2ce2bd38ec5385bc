use Rattle.std.proofs.Common.{◌≡◌}
use Rattle.stark_symbolic.specs.SymbolicTrees.{base_part, extension_part}
use Rattle.stark_symbolic.proofs.constraints.parts_of.Given as goal

abbrev pub invariant-loop-constraint : goal.invariant-loop-constraint
invariant-loop-constraint g l = (l.base.items ≡ base_part l.yielded) × (l.extension.items ≡ extension_part l.yielded)
