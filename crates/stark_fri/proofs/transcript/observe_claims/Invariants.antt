use Rattle.std.proofs.Common.{◌≡◌, drop, map}
use Rattle.stark_support.specs.Sponge.{observed_all}
use Rattle.stark_fri.specs.Claims.{round_seen}
use Rattle.stark_fri.specs.Parts.{ObservingCalls}
use Rattle.stark_fri.specs.Transcript.{observed_claims, observed_round}
use Rattle.stark_fri.proofs.Members.{observing_by}
use Rattle.stark_fri.proofs.transcript.observe_claims.Given as goal

abbrev pub calls_of : (g : goal.Over) → ObservingCalls g.row.C.Denot g.row.D-Val.Denot g.row.EF.Denot
calls_of g = observing_by g.D.Val.PrimeField64 g.EF.ExtensionField g.C.CanObserve-1 g.C.CanObserve-2

abbrev pub invariant-loop-claim : goal.invariant-loop-claim
invariant-loop-claim g l =
    let seen = round_seen g.D.PolynomialSpace.coset_of in
    observed_all (observed_round (calls_of g)) (map seen (drop l.claim-index l.claims)) l.challenger
    ≡ observed_claims (calls_of g) l.fn.challenger (map seen l.fn.claims)
