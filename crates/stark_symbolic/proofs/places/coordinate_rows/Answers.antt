use Rattle.std.specs.Vec.{vec_items}
use Rattle.stark_symbolic.proofs.PlaceSteps.{one_more_pushed_row}
use Rattle.stark_symbolic.proofs.places.coordinate_rows.Goals as goal

pub loop-d-preserved : goal.loop-d-preserved
loop-d-preserved g c =
    one_more_pushed_row g.EF.ExtensionField.coordinates c.loop-d.d c.args.values.now vec_items c.loop-d.rows.items c.push.new.self.items c.in_ok-coordinates_at.field-0
    c.in_ok-push.ensures.items c.loop-d.invariant c.in_ok-coordinates_at.ensures
