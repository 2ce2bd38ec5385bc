use Rattle.std.specs.Simd.Lanes.{zip2}
use Rattle.std.proofs.Common.{◌≡◌, ◌+◌, ◌++◌, take, vec_capacity, vec_len}
use Rattle.stark_bench.proofs.coset.push_products.Given as goal

abbrev pub invariant-loop-index : goal.invariant-loop-index
invariant-loop-index g l = record {
  items : l.all.items ≡ l.initial.all.items ++ take l.index (zip2 g.F.Field.ring.mul l.lefts l.rights);
  number : vec_len l.all ≡ vec_len l.initial.all + l.index;
  capacity : vec_capacity l.all ≡ vec_capacity l.initial.all;
}
