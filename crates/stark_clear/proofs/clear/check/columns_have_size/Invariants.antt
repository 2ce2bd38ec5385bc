use Rattle.std.proofs.Common.{◌≡◌, length}
use Rattle.stark_columns.specs.Columns.{column_list}
use Rattle.stark_support.proofs.Loops.{Left}
use Rattle.stark_clear.proofs.clear.check.columns_have_size.Given as goal

abbrev pub invariant-loop-column : goal.invariant-loop-column
invariant-loop-column g l = Left column_list (λ column. length column ≡ l.size) l.columns l.column-index
