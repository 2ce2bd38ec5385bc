use Rattle.std.proofs.Common.{◌+◌, ◌<◌, length, arith, rules, refl}
use Rattle.stark_dft.proofs.PassSteps.{block_end, next_low, first_point, next_point, none_written, parts_of, of_parts, same_parts, interpolated_sum, interpolated_product}
use Rattle.stark_dft.proofs.passes.interpolation_pass.Goals as goal

pub loop-block-init : goal.loop-block-init
loop-block-init g c = record {
  point = first_point g.F.Field.ring g.met.F.Field.field_laws.of_ring c.args.first c.args.ratio;
  low = omega arith;
  done = none_written g.F.Field.ring _ _ _ _ c.args.target.now;
}

pub offset_bounds-target-low : goal.offset_bounds-target-low
offset_bounds-target-low g c =
    let end = block_end c.loop-block._block c.args.blocks c.args.half c.loop-block.low c.loop-block.invariant.low c.loop-block-test.true in
    let within : c.loop-block.low + c.loop-place.place < length c.loop-place.target = omega arith in
    search rules

pub offset_bounds-target-low-in-loop-other : goal.offset_bounds-target-low-in-loop-other
offset_bounds-target-low-in-loop-other g c =
    let end = block_end c.loop-block._block c.args.blocks c.args.half c.loop-block.low c.loop-block.invariant.low c.loop-block-test.true in
    let within : c.loop-block.low + c.loop-other.other + c.args.half < length c.loop-other.target = omega arith in
    search rules

pub loop-place-init : goal.loop-place-init
loop-place-init g c = parts_of g.F.Field.ring _ _ _ _ c.loop-block.low c.loop-block.target c.loop-block.invariant.done

pub loop-place-preserved : goal.loop-place-preserved
loop-place-preserved g c =
    interpolated_sum g.F.Field.ring g.met.F.Field.field_laws.of_ring c.args.half c.args.first c.args.ratio c.args.blocks c.loop-block._block c.loop-block.low c.loop-place.place c.args.source.now c.loop-place.target
    c.index-source-place.result c.index-source-middle.result c.add.result
    c.loop-block.invariant.low c.loop-block-test.true (omega arith) c.loop-place-test.true c.requires.source_length (omega arith)
    c.index-source-place.is c.index-source-middle.is (g.met.F.Field.add_is _ _ _ c.add.ensures)
    c.loop-place.invariant

pub loop-other-init : goal.loop-other-init
loop-other-init g c = same_parts g.F.Field.ring _ _ _ _ c.loop-place.place (c.loop-block.low + c.args.half) c.loop-block.low c.loop-place.target (omega arith) c.loop-place.invariant

pub loop-other-preserved : goal.loop-other-preserved
loop-other-preserved g c =
    interpolated_product g.F.Field.ring g.met.F.Field.field_laws.of_ring c.args.half c.args.first c.args.ratio c.args.blocks c.loop-block._block c.loop-block.low c.loop-other.other c.args.source.now c.loop-other.target
    c.index-source-other.result c.index-source-middle-in-loop-other.result c.loop-block.inverse c.sub-difference.result c.times_factor.result
    c.loop-block.invariant.low c.loop-block-test.true (omega arith) c.loop-other-test.true c.requires.source_length (omega arith) c.loop-block.invariant.point
    c.index-source-other.is c.index-source-middle-in-loop-other.is (g.met.F.Field.sub_is _ _ _ c.sub-difference.ensures) c.times_factor.ensures
    c.loop-other.invariant

pub loop-block-preserved : goal.loop-block-preserved
loop-block-preserved g c = record {
  point = next_point g.F.Field.ring g.met.F.Field.field_laws.of_ring c.args.first c.args.ratio c.loop-block.inverse c.mul-inverse.result c.loop-block._block c.loop-block.invariant.point (g.met.F.Field.mul_is _ _ _ c.mul-inverse.ensures);
  low = next_low c.loop-block._block c.args.half c.loop-block.low c.loop-block.invariant.low;
  done = of_parts g.F.Field.ring _ _ _ _ (c.loop-block.low + c.args.half) c.loop-other.other (c.loop-block.low + c.args.half) c.loop-other.target refl (omega arith) c.loop-other.invariant;
}
