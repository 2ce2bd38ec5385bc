use Rattle.std.proofs.Common.{◌≡◌, ◌++◌, take, drop, length}
use Rattle.stark_support.specs.Polynomial.{scaled}
use Rattle.stark_dft.proofs.transform.scaled.Given as goal

abbrev pub invariant-loop-place : goal.invariant-loop-place
invariant-loop-place g l = record {
  number : length l.multiple.items ≡ length l.initial.multiple.items;
  left : take l.place l.multiple.items ++ scaled g.F.Field.ring l.factor (drop l.place l.multiple.items) ≡ scaled g.F.Field.ring l.factor l.initial.multiple.items;
}
