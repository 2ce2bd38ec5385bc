use Rattle.std.proofs.Common.{◌≡◌, drop, map}
use Rattle.stark_fri.specs.Claims.{first_height, round_seen}
use Rattle.stark_fri.proofs.claims.first_height.Given as goal

abbrev pub invariant-loop-claim : goal.invariant-loop-claim
invariant-loop-claim g l = first_height (map (round_seen g.D.PolynomialSpace.coset_of) (drop l.claim-index l.claims)) ≡ first_height (map (round_seen g.D.PolynomialSpace.coset_of) l.claims)
