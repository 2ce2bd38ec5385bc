use Rattle.std.proofs.Common.{map}
use Rattle.stark_support.specs.Claims.{point_view}
use Rattle.stark_clear.specs.ClearClaims.{HasValues}
use Rattle.stark_columns.specs.Columns.{column_list}
use Rattle.stark_support.proofs.Loops.{Left}
use Rattle.stark_clear.proofs.clear.check.matrix_is_true.Given as goal

abbrev pub invariant-loop-point : goal.invariant-loop-point
invariant-loop-point g l = Left point_view (HasValues g.EF.Field.ring g.EF.ExtensionField.embed (map column_list l.columns)) l.points l.point-index
