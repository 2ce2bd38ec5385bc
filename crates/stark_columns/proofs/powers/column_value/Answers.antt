use Rattle.std.proofs.Common.{◌∙◌, ◌-◌, length, take, drop, refl, ap, arith}
use Rattle.stark_support.specs.Extension.{basis_sum}
use Rattle.stark_columns.proofs.PowerSums.{one_more_block, power_read}
use Rattle.stark_columns.proofs.powers.column_value.Goals as goal

pub loop-end-preserved : goal.loop-end-preserved
loop-end-preserved g c =
    let start = c.saturating_sub-start.result in
    let end = c.loop-end.end in
    let ring = g.EF.Field.ring in
    let embed = g.EF.ExtensionField.embed in
    let field = g.met.EF.Field in
    let powers = c.args.powers.now in
    let column = c.args.column.now in (
      omega (arith, c.saturating_sub-start.ensures),
      one_more_block field.field_laws.of_ring embed c.args.point column (take (end - start) (drop start column)) start end (length powers) c.loop-end.value c.sum_of_block-block.result c.index-powers-end.result c.mul.result c.add-value.result
          (omega (arith, c.saturating_sub-start.ensures)) (omega arith) refl (omega (arith, c.saturating_sub-start.ensures))
          c.loop-end.invariant.1 (c.sum_of_block-block.ensures ∙ ap (basis_sum ring embed (take (end - start) (drop start column))) c.requires)
          (power_read ring c.args.point powers (length powers) (end - start) c.index-powers-end.result c.requires (omega (arith, c.saturating_sub-start.ensures)) c.index-powers-end.is)
          (field.mul_is _ _ _ c.mul.ensures) (field.add_is _ _ _ c.add-value.ensures),
    )
