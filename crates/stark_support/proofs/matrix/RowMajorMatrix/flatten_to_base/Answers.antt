use Rattle.std.proofs.Common.{arith}
use Rattle.stark_support.proofs.Coordinates.{still_whole}
use Rattle.stark_support.proofs.matrix.RowMajorMatrix.flatten_to_base.Goals as goal

pub invariant_of-result : goal.invariant_of-result
invariant_of-result g c = record {
  whole_rows = still_whole g.EF.ExtensionField.coordinates g.EF.ExtensionField.DIMENSION c.DIMENSION.result c.args.self.width c.loop-x.x-index c.args.self.values.items c.loop-x.values.items
      g.met.EF.ExtensionField.is_basis.count c.DIMENSION.ensures c.args.self.whole_rows (omega (arith, c.deref-x-items.ensures)) c.loop-x.invariant;
}
