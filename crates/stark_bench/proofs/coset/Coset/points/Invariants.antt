use Rattle.std.proofs.Common.{◌≡◌, ◌^◌, ◌≤◌, vec_capacity}
use Rattle.stark_support.specs.Coset.{AreValuesOn}
use Rattle.stark_support.specs.Powers.{power}
use Rattle.stark_bench.proofs.coset.Coset.points.Given as goal

abbrev pub invariant-loop-round : goal.invariant-loop-round
invariant-loop-round g l = record {
  step : l.step ≡ power g.F.Field.ring (g.F.TwoAdicField.root l.fn.self.log_size) (2 ^ l._round);
  points : AreValuesOn g.F.Field.ring g.F.TwoAdicField.root (record { shift = l.fn.self.shift; log_size = l.fn.self.log_size }) (2 ^ l._round) (λ x. x) l.points.items;
  room : 2 ^ l.fn.self.log_size ≤ vec_capacity l.points;
}
