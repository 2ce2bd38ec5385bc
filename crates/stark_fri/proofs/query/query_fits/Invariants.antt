use Rattle.stark_support.proofs.Loops.{BothLeft}
use Rattle.stark_fri.specs.Claims.{round_seen}
use Rattle.stark_fri.specs.Query.{InputFits}
use Rattle.stark_fri.proofs.query.query_fits.Given as goal

abbrev pub invariant-loop-r : goal.invariant-loop-r
invariant-loop-r g l = BothLeft (round_seen g.D.PolynomialSpace.coset_of) (λ v. v) InputFits l.claims l.query.inputs l.r
