use Rattle.std.proofs.Common.{◌≡◌, ◌++◌, map, drop}
use Rattle.stark_columns.specs.Columns.{columns_list}
use Rattle.stark_clear.proofs.clear.commit.copied.Given as goal

abbrev pub invariant-loop-columns : goal.invariant-loop-columns
invariant-loop-columns g l = map columns_list l.copy.items ++ map columns_list (drop l.columns-index l.matrices) ≡ map columns_list l.matrices
