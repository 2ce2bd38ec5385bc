use Rattle.std.proofs.Common.{◌≡◌, ◌*◌, ◌-◌, ◌^◌, length}
use Rattle.stark_support.specs.Powers.{power}
use Rattle.stark_dft.specs.Halving.{LeadsTo, level_point}
use Rattle.stark_dft.proofs.transform.interpolated.Given as goal

abbrev pub invariant-loop-done : goal.invariant-loop-done
invariant-loop-done g l = record {
  block : l.block ≡ l.width * 2 ^ l.done;
  blocks : l.blocks ≡ 2 ^ (l.log_size - l.done);
  source_length : length l.source.items ≡ l.width * 2 ^ l.log_size;
  target_length : length l.target.items ≡ l.width * 2 ^ l.log_size;
  leads : LeadsTo g.F.Field.ring l.block l.blocks (level_point g.F.Field.ring g.F.TwoAdicField.root l.shift l.log_size (l.log_size - l.done)) l.source.items
      (power g.F.Field.ring (g.F.Field.inverse_of (g.F.Field.ring.add g.F.Field.ring.one g.F.Field.ring.one)) (l.log_size - l.done)) l.width (2 ^ l.log_size) (level_point g.F.Field.ring g.F.TwoAdicField.root l.shift l.log_size l.log_size) l.fn.values.items;
}
