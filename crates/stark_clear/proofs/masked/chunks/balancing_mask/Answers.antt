use Rattle.std.proofs.lemmas.Grind.{common_steps}
use Rattle.std.proofs.Common.{◌≡◌, ◌∙◌, [], ap, arith, get_or, length}
use Rattle.std.proofs.lemmas.List.{length-map}
use Rattle.stark_columns.specs.Columns.{column_list, columns_list}
use Rattle.stark_clear.specs.Masks.{HasMaskAt}
use Rattle.stark_clear.proofs.BalancingSteps.{mask_read, one_more_off, one_of_all}
use Rattle.stark_clear.proofs.MaskedColumns.{off_length}
use Rattle.stark_clear.proofs.masked.chunks.balancing_mask.Goals as goal

pub index-requires : goal.index-requires
index-requires g c =
    let here = one_of_all columns_list (HasMaskAt c.args.column c.args.size) c.args.chosen.now c.loop-masks.masks-index c.masks-item.result c.requires (omega (arith, c.loop-masks-test.true)) c.masks-item.is in
    omega (arith, here.0, length-map c.masks-item.result.items column_list)

pub take_off-requires : goal.take_off-requires
take_off-requires g c =
    let here = one_of_all columns_list (HasMaskAt c.args.column c.args.size) c.args.chosen.now c.loop-masks.masks-index c.masks-item.result c.requires (omega (arith, c.loop-masks-test.true)) c.masks-item.is in
    let read : c.deref.result.now ≡ get_or (columns_list c.masks-item.result) c.args.column []
    = mask_read column_list c.masks-item.result.items c.args.column c.index.result.now c.deref.result.now (omega (arith, here.0, length-map c.masks-item.result.items column_list)) c.index.ensures c.deref.ensures.value in
    let size : length c.deref.result.now ≡ c.args.size = ap length read ∙ here.1 in
    omega (arith, size, c.loop-masks.invariant.0)

pub loop-masks-preserved : goal.loop-masks-preserved
loop-masks-preserved g c =
    let here = one_of_all columns_list (HasMaskAt c.args.column c.args.size) c.args.chosen.now c.loop-masks.masks-index c.masks-item.result c.requires (omega (arith, c.loop-masks-test.true)) c.masks-item.is in
    let read : c.deref.result.now ≡ get_or (columns_list c.masks-item.result) c.args.column []
    = mask_read column_list c.masks-item.result.items c.args.column c.index.result.now c.deref.result.now (omega (arith, here.0, length-map c.masks-item.result.items column_list)) c.index.ensures c.deref.ensures.value in
    let size : length c.deref.result.now ≡ c.args.size = ap length read ∙ here.1 in (
      ap length c.take_off.ensures ∙ off_length g.F.Field.ring c.loop-masks.mask.items c.deref.result.now (omega (arith, size, c.loop-masks.invariant.0)) ∙ c.loop-masks.invariant.0,
      one_more_off g.F.Field.ring columns_list c.args.chosen.now c.args.column c.args.size c.loop-masks.masks-index c.masks-item.result c.loop-masks.mask.items c.take_off.new.from.items c.deref.result.now _
          (omega (arith, c.loop-masks-test.true)) c.masks-item.is read c.take_off.ensures c.loop-masks.invariant.1,
    )

pub returns : goal.returns
returns g c = grind (arith, common_steps)
