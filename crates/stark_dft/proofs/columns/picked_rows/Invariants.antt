use Rattle.std.proofs.Common.{◌+◌, ◌*◌}
use Rattle.stark_dft.specs.Columns.{ArePicked}
use Rattle.stark_dft.proofs.columns.picked_rows.Given as goal

abbrev pub invariant-loop-row : goal.invariant-loop-row
invariant-loop-row g l = ArePicked l.values l.first l.step l.width (l.row * l.width) l.rows.items

abbrev pub invariant-loop-column : goal.invariant-loop-column
invariant-loop-column g l = ArePicked l.values l.first l.step l.width (l.row * l.width + l.column) l.rows.items
