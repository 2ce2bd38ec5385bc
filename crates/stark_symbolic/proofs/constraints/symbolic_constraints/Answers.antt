use Rattle.std.proofs.Common.{rules}
use Rattle.stark_symbolic.specs.SymbolicRow.{row_is_symbolic}
use Rattle.stark_symbolic.specs.SymbolicTrees.{collected_trees}
use Rattle.stark_symbolic.proofs.constraints.symbolic_constraints.Goals as goal

pub returns : goal.returns
returns g c =
    let made = c.in_ok-builder.ensures in
    collected_trees g.F.Field.ring _ _ _ (g.A.Air.constraints c.args.air.now) c.in_ok-eval.ensures.asserted.appended made.nothing
    (row_is_symbolic _ _ made.public_values made.periodic_values)

pub returns-in_err-eval : goal.returns-in_err-eval
returns-in_err-eval g c = search rules
