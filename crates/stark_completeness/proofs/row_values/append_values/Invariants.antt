use Rattle.std.proofs.Common.{◌≡◌, ◌++◌, take}
use Rattle.stark_completeness.proofs.row_values.append_values.Given as goal

abbrev pub invariant-loop-value : goal.invariant-loop-value
invariant-loop-value g l = l.all.items ≡ l.fn.all.items ++ take l.value-index l.values
