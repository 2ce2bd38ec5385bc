use Rattle.std.proofs.Common.{◌≡◌, ◌+◌, ◌++◌, map, take, vec_capacity, vec_len}
use Rattle.stark_bench.proofs.coset.push_own_scaled.Given as goal

abbrev pub invariant-loop-index : goal.invariant-loop-index
invariant-loop-index g l = record {
  items : l.all.items ≡ l.initial.all.items ++ map (g.F.Field.ring.mul l.factor) (take l.index l.initial.all.items);
  number : vec_len l.all ≡ vec_len l.initial.all + l.index;
  capacity : vec_capacity l.all ≡ vec_capacity l.initial.all;
}
