use Rattle.std.proofs.Common.{◌≡◌, ◌++◌, drop, map}
use Rattle.stark_tree_air.proofs.symbolic.copied_columns.Given as goal

abbrev pub invariant-loop-column : goal.invariant-loop-column
invariant-loop-column g l = map (λ column. column.items) l.copies.items ++ map (λ column. column.items) (drop l.column-index l.columns) ≡ map (λ column. column.items) l.columns
