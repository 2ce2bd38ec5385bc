use Rattle.std.proofs.Common.{map}
use Rattle.std.specs.Vec.{vec_items}
use Rattle.stark_symbolic.specs.Places.{AreCoordinateRows}
use Rattle.stark_symbolic.proofs.places.coordinate_rows.Given as goal

abbrev pub invariant-loop-d : goal.invariant-loop-d
invariant-loop-d g l = AreCoordinateRows g.EF.ExtensionField.coordinates l.d l.values (map vec_items l.rows.items)
