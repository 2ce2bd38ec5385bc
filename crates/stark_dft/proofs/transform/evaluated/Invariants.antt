use Rattle.std.proofs.Common.{◌≡◌, ◌*◌, ◌-◌, ◌^◌, length}
use Rattle.stark_dft.specs.Passes.{entry}
use Rattle.stark_dft.specs.Halving.{AreValuesInBlocks, level_point}
use Rattle.stark_dft.proofs.transform.evaluated.Given as goal

abbrev pub invariant-loop-level : goal.invariant-loop-level
invariant-loop-level g l = record {
  block : l.block ≡ l.width * 2 ^ (l.log_size - l.level);
  blocks : l.blocks ≡ 2 ^ l.level;
  source_length : length l.source.items ≡ l.width * 2 ^ l.log_size;
  target_length : length l.target.items ≡ l.width * 2 ^ l.log_size;
  values : AreValuesInBlocks g.F.Field.ring g.F.Field.ring.one (entry g.F.Field.ring l.fn.coefficients.items) l.block l.blocks (level_point g.F.Field.ring g.F.TwoAdicField.root l.shift l.log_size l.level) l.source.items;
}
