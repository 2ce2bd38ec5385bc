use Rattle.stark_support.proofs.Loops.{Left, Passed}
use Rattle.stark_fri.specs.Claims.{HasWidths, round_seen}
use Rattle.stark_fri.proofs.claims.first_of_two_widths.Given as goal

abbrev pub invariant-loop-i : goal.invariant-loop-i
invariant-loop-i g l = Left (round_seen g.D.PolynomialSpace.coset_of) HasWidths l.claims l.i × Passed (round_seen g.D.PolynomialSpace.coset_of) HasWidths l.claims l.i
