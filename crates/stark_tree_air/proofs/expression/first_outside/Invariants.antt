use Rattle.std.proofs.Common.{◌≡◌, drop}
use Rattle.stark_air.specs.SymbolicLayout.{symbolic_layout}
use Rattle.stark_tree_air.specs.Named.{first_outside}
use Rattle.stark_tree_air.proofs.expression.first_outside.Given as goal

abbrev pub invariant-loop-named : goal.invariant-loop-named
invariant-loop-named g l = first_outside (symbolic_layout l.layout) (drop l.named-index l.constraints) ≡ first_outside (symbolic_layout l.layout) l.constraints
