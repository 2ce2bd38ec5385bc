use Rattle.std.proofs.Common.{length}
use Rattle.stark_bench.proofs.coset.«+quotients».Given as goal

abbrev pub decreases-quotients : goal.decreases-quotients
decreases-quotients g l = length l.divisors.now
