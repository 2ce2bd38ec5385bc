use Rattle.std.proofs.Common.{◌≡◌, length, map, take, vec_capacity}
use Rattle.stark_support.specs.Ring.{difference}
use Rattle.stark_bench.proofs.coset.differences.Given as goal

abbrev pub invariant-loop-x : goal.invariant-loop-x
invariant-loop-x g l = record {
  items : l.left.items ≡ map (λ x. difference g.F.Field.ring x l.c) (take l.x-index l.elements);
  capacity : vec_capacity l.left ≡ length l.elements;
}
