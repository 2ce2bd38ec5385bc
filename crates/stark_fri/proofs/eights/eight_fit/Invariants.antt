use Rattle.std.proofs.Common.{◌≡◌, ◌<◌, ℕ, map, slice_index_or}
use Rattle.stark_fri_proof.specs.Parts.{QueryProof}
use Rattle.stark_fri.specs.Claims.{round_seen}
use Rattle.stark_fri.specs.Query.{QueryFits}
use Rattle.stark_fri.proofs.eights.eight_fit.Given as goal

abbrev pub invariant-loop-i : goal.invariant-loop-i
invariant-loop-i g l = (j : ℕ) (query : QueryProof g.row.D-Val.Denot g.row.EF.Denot) → j < l.i → query ≡ slice_index_or l.queries j query
    → QueryFits (map (round_seen g.D.PolynomialSpace.coset_of) l.claims) l.folds query
