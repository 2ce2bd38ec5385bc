use Rattle.std.proofs.Common.{◌^◌, map}
use Rattle.stark_dft.specs.Columns.{AreSplit, column_list}
use Rattle.stark_dft.proofs.columns.interpolate_columns.Given as goal

abbrev pub invariant-loop-column : goal.invariant-loop-column
invariant-loop-column g l = AreSplit g.F.Field.ring l.coefficients.items l.width (2 ^ l.fn.log_size) l.size l.column (map column_list l.columns.items)
