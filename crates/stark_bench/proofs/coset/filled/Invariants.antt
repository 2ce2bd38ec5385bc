use Rattle.std.proofs.Common.{◌≡◌, [], ◌∷◌, vec_capacity}
use Rattle.stark_bench.specs.PointLists.{AreRepeated}
use Rattle.stark_bench.proofs.coset.filled.Given as goal

abbrev pub invariant-loop-index : goal.invariant-loop-index
invariant-loop-index g l = record {
  items : AreRepeated (l.x ∷ []) l._index l.all.items;
  capacity : vec_capacity l.all ≡ l.count;
}
