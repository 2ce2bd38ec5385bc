use Rattle.std.proofs.Common.{◌≡◌, ◌+◌, ◌++◌, map, take, vec_capacity, vec_len}
use Rattle.stark_bench.proofs.coset.push_scaled.Given as goal

abbrev pub invariant-loop-x : goal.invariant-loop-x
invariant-loop-x g l = record {
  items : l.all.items ≡ l.initial.all.items ++ map (g.F.Field.ring.mul l.factor) (take l.x-index l.elements);
  number : vec_len l.all ≡ vec_len l.initial.all + l.x-index;
  capacity : vec_capacity l.all ≡ vec_capacity l.initial.all;
}
