use Rattle.std.proofs.Common.{rules}
use Rattle.stark_symbolic.specs.SymbolicTrees.{base_part_is, extension_part_is}
use Rattle.stark_symbolic.proofs.constraints.get_all_symbolic_constraints.Goals as goal

pub returns-clause-base : goal.returns-clause-base
returns-clause-base g c = rw (← base_part_is g.F.Field.ring (g.A.Air.constraints c.args.air.now), ← c.in_ok-constraints.ensures) c.parts_of.ensures.base

pub returns-clause-extension : goal.returns-clause-extension
returns-clause-extension g c = rw (← extension_part_is g.F.Field.ring (g.A.Air.constraints c.args.air.now), ← c.in_ok-constraints.ensures) c.parts_of.ensures.extension

pub returns-in_err-constraints : goal.returns-in_err-constraints
returns-in_err-constraints c = search rules
