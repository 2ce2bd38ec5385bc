use Rattle.std.proofs.Common.{◌≡◌, ◌++◌, map, drop}
use Rattle.stark_support.specs.Polynomial.{value_over}
use Rattle.stark_columns.proofs.rows.row_at.Given as goal

abbrev pub invariant-loop-column : goal.invariant-loop-column
invariant-loop-column g l =
    l.row.items ++ map (λ column. value_over g.EF.Field.ring g.EF.ExtensionField.embed column.items l.point) (drop l.column-index l.columns)
    ≡ map (λ column. value_over g.EF.Field.ring g.EF.ExtensionField.embed column.items l.point) l.columns
