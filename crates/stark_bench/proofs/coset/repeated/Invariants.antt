use Rattle.stark_bench.specs.PointLists.{AreRepeated}
use Rattle.stark_bench.proofs.coset.repeated.Given as goal

abbrev pub invariant-loop-index : goal.invariant-loop-index
invariant-loop-index g l = AreRepeated l.list l.index l.all.items
