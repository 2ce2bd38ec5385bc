use Rattle.std.proofs.Common.{◌≡◌, ◌++◌, map, drop}
use Rattle.stark_columns.specs.Columns.{columns_list}
use Rattle.stark_columns.specs.Opened.{matrices_at}
use Rattle.stark_columns.proofs.rows.matrices_at.Given as goal

abbrev pub invariant-loop-i : goal.invariant-loop-i
invariant-loop-i g l =
    map (λ m. map (λ row. row.items) m.items) l.opened.items ++ matrices_at g.EF.Field.ring g.EF.ExtensionField.embed (map columns_list (drop l.i l.matrices)) (map (λ p. p.items) (drop l.i l.points))
    ≡ matrices_at g.EF.Field.ring g.EF.ExtensionField.embed (map columns_list l.matrices) (map (λ p. p.items) l.points)
