use Rattle.std.proofs.Common.{◌-◌, arith}
use Rattle.stark_support.specs.Extension.{basis_sum}
use Rattle.stark_columns.proofs.PowerSums.{one_more_coordinate}
use Rattle.stark_columns.proofs.powers.sum_of_block.Goals as goal

pub loop-place-preserved : goal.loop-place-preserved
loop-place-preserved g c =
    let field = g.met.EF.Field in
    let whole = basis_sum g.EF.Field.ring g.EF.ExtensionField.embed c.args.coefficients.now c.args.powers.now in (
      omega arith,
      one_more_coordinate g.EF.Field.ring g.EF.ExtensionField.embed g.EF.ExtensionField.basis (g.EF.ExtensionField.coordinates whole) (c.loop-place.place - 1) c.loop-place.place
          c.basis_element.result c.coordinate_of_sum-coordinate.result c.from_base.result c.mul.result c.loop-place.sum c.add-sum.result (omega arith) c.basis_element.ensures c.coordinate_of_sum-coordinate.ensures
          c.from_base.ensures (field.mul_is _ _ _ c.mul.ensures) (field.add_is _ _ _ c.add-sum.ensures) c.loop-place.invariant.1,
    )
