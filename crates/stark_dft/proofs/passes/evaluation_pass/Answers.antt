use Rattle.std.proofs.Common.{◌+◌, ◌*◌, ◌<◌, length, arith, rules}
use Rattle.stark_dft.proofs.PassSteps.{block_end, next_low, first_point, next_point, none_written, same_written, evaluated_pair}
use Rattle.stark_dft.proofs.passes.evaluation_pass.Goals as goal

pub loop-block-init : goal.loop-block-init
loop-block-init g c = record {
  point = first_point g.F.Field.ring g.met.F.Field.field_laws.of_ring c.args.first c.args.ratio;
  low = omega arith;
  done = none_written g.F.Field.ring _ _ _ _ c.args.target.now;
}

pub offset_bounds-target-middle : goal.offset_bounds-target-middle
offset_bounds-target-middle g c =
    let end = block_end c.loop-block._block c.args.blocks c.args.half c.loop-block.low c.loop-block.invariant.low c.loop-block-test.true in
    let within : c.args.blocks * c.args.half + c.loop-place.place < length c.loop-place.target = omega arith in
    search rules

pub loop-place-preserved : goal.loop-place-preserved
loop-place-preserved g c =
    evaluated_pair g.F.Field.ring g.met.F.Field.field_laws.of_ring c.args.half c.args.first c.args.ratio c.args.blocks c.loop-block._block c.loop-block.low c.loop-place.place c.args.source.now c.loop-place.target
    c.index-source-low.result c.index-source-low-in-loop-place.result c.loop-block.point c.times_factor-odd.result c.add.result c.sub.result
    c.loop-block.invariant.low c.loop-block-test.true (omega arith) c.loop-place-test.true c.requires.source_length (omega arith) c.loop-block.invariant.point
    c.index-source-low.is c.index-source-low-in-loop-place.is c.times_factor-odd.ensures (g.met.F.Field.add_is _ _ _ c.add.ensures) (g.met.F.Field.sub_is _ _ _ c.sub.ensures)
    c.loop-place.invariant

pub loop-block-preserved : goal.loop-block-preserved
loop-block-preserved g c = record {
  point = next_point g.F.Field.ring g.met.F.Field.field_laws.of_ring c.args.first c.args.ratio c.loop-block.point c.mul-point.result c.loop-block._block c.loop-block.invariant.point (g.met.F.Field.mul_is _ _ _ c.mul-point.ensures);
  low = next_low c.loop-block._block c.args.half c.loop-block.low c.loop-block.invariant.low;
  done = same_written g.F.Field.ring _ _ _ _ c.loop-place.place (c.loop-block.low + c.args.half) c.loop-place.target (omega arith) c.loop-place.invariant;
}
