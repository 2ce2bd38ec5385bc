use Rattle.stark_bench.specs.PointLists.{AreQuotients}
use Rattle.stark_bench.proofs.coset.quotients_by_inverses.Given as goal

abbrev pub invariant-loop-index : goal.invariant-loop-index
invariant-loop-index g l = AreQuotients g.F.Field.ring g.F.Field.inverse_of l.elements l.divisors l.index l.over.items
