use Rattle.std.proofs.Common.{◌≡◌, All, length}
use Rattle.stark_symbolic.specs.SymbolicRow.{AreVariables}
use Rattle.stark_symbolic.proofs.window.variables.Given as goal

abbrev pub invariant-loop-index : goal.invariant-loop-index
invariant-loop-index g l = (length l.row.items ≡ l.index) × AreVariables l.entry l.row.items × All (λ v. v.entry ≡ l.entry) l.row.items
