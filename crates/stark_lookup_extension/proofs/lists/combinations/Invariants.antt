use Rattle.stark_lookup_extension.specs.Written.{ByTrees, RowsStand, Stand}
use Rattle.stark_logup.specs.Coordinates.{combination}
use Rattle.stark_lookup_extension.proofs.Loops.{Begun}
use Rattle.stark_lookup_extension.proofs.ListSteps.{Row, Rows}
use Rattle.stark_lookup_extension.proofs.lists.combinations.Given as goal

abbrev pub invariant-loop-row : goal.invariant-loop-row
invariant-loop-row g l = ByTrees g.F.Field.ring (λ trees. Begun Stand Rows Row (combination trees) l.fn.list l.xs l.table l.row-index l.all.items l.list)
