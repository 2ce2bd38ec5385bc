use Rattle.stark_support.proofs.Loops.{Left, Passed}
use Rattle.stark_fri.specs.Claims.{HasHeight, round_seen}
use Rattle.stark_fri.proofs.claims.first_other_height.Given as goal

abbrev pub invariant-loop-i : goal.invariant-loop-i
invariant-loop-i g l = Left (round_seen g.D.PolynomialSpace.coset_of) (HasHeight l.log_height) l.claims l.i × Passed (round_seen g.D.PolynomialSpace.coset_of) (HasHeight l.log_height) l.claims l.i
